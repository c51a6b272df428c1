use Rattle.flagops_rollouts.proofs.Valid.{plans_are_valid}
use Rattle.flagops_rollouts.proofs.laws.printed_plans_are_valid.Goals as goal

pub returns : goal.returns
returns c = plans_are_valid
