use Rattle.logic_eval.proofs.Replacing.{one_site, reached_given}
use Rattle.logic_eval.proofs.laws.a_rule_that_chooses_alike_changes_nothing_else.Goals as goal

pub returns-clause-replaced : goal.returns-clause-replaced
returns-clause-replaced c = one_site

pub returns-clause-reached : goal.returns-clause-reached
returns-clause-reached c = reached_given
