use Rattle.std.proofs.Common.{length}
use Rattle.logic_eval.proofs.exact.+rises.Given as goal

abbrev pub decreases-rises : goal.decreases-rises
decreases-rises l = length l.values.now
