use Rattle.std.proofs.Common.{length}
use Rattle.page_tally.specs.Parts.{IsPartOf}
use Rattle.page_tally.proofs.part.read_part.Given as goal

abbrev pub invariant-loop-part : goal.invariant-loop-part
invariant-loop-part l = IsPartOf l.bytes l.total l.part

abbrev pub decreases-loop-part : goal.decreases-loop-part
decreases-loop-part l = length l.part.rest.now
