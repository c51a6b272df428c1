use Rattle.std.proofs.Common.{length}
use Rattle.logic_eval.proofs.find.+follow.Given as goal

abbrev pub decreases-follow : goal.decreases-follow
decreases-follow l = length l.path.now
