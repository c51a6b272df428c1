use Rattle.logic_eval.proofs.Branching.{true_test, false_test, false_argument, true_argument}
use Rattle.logic_eval.proofs.laws.a_branch_not_taken_is_not_evaluated.Goals as goal

pub returns-clause-true_test : goal.returns-clause-true_test
returns-clause-true_test c = true_test

pub returns-clause-false_test : goal.returns-clause-false_test
returns-clause-false_test c = false_test

pub returns-clause-false_argument : goal.returns-clause-false_argument
returns-clause-false_argument c = false_argument

pub returns-clause-true_argument : goal.returns-clause-true_argument
returns-clause-true_argument c = true_argument
