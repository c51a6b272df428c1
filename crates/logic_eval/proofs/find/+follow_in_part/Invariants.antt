use Rattle.std.proofs.Common.{length}
use Rattle.logic_eval.proofs.find.+follow_in_part.Given as goal

abbrev pub decreases-follow_in_part : goal.decreases-follow_in_part
decreases-follow_in_part l = length l.path.now
