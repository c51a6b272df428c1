use Rattle.std.proofs.Common.{length}
use Rattle.flagops_files.proofs.Counted.{Looked}
use Rattle.flagops_files.proofs.counting.lost_first.Given as goal

abbrev pub invariant-inputs : goal.invariant-inputs
invariant-inputs l = Looked l.new l.page l.bytes l.lost l.rest

abbrev pub decreases-inputs : goal.decreases-inputs
decreases-inputs l = length l.rest
