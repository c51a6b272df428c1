use Rattle.flagops_rollouts.proofs.Passed.{passed_over}
use Rattle.flagops_rollouts.proofs.laws.unread_members_are_passed_over.Goals as goal

pub returns : goal.returns
returns c = passed_over
