use Rattle.logic_eval.proofs.Branching.{operand_as_ever, without_decimals}
use Rattle.logic_eval.proofs.laws.decimals_change_nothing_else.Goals as goal

pub returns-clause-read : goal.returns-clause-read
returns-clause-read c = operand_as_ever

pub returns-clause-compared : goal.returns-clause-compared
returns-clause-compared c = without_decimals
