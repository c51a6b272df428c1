use Rattle.std.proofs.Common.{◌≡◌, length}
use Rattle.page_tally.proofs.Lacking.{any_lack}
use Rattle.page_tally.proofs.foreign.any_lacks.Given as goal

abbrev pub invariant-loop-plain : goal.invariant-loop-plain
invariant-loop-plain g l = any_lack l.key l.bytes ≡ any_lack l.key l.rest

abbrev pub decreases-loop-plain : goal.decreases-loop-plain
decreases-loop-plain g l = length l.rest
