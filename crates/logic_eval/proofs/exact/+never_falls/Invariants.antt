use Rattle.std.proofs.Common.{length}
use Rattle.logic_eval.proofs.exact.+never_falls.Given as goal

abbrev pub decreases-never_falls : goal.decreases-never_falls
decreases-never_falls l = length l.values.now
