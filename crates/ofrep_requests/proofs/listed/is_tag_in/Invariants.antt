use Rattle.std.proofs.Common.{◌≡◌, length}
use Rattle.ofrep_requests.specs.Tag.{is_tag_in}
use Rattle.ofrep_requests.proofs.listed.is_tag_in.Given as goal

abbrev pub invariant-loop-opened : goal.invariant-loop-opened
invariant-loop-opened l = is_tag_in l.opaque l.rest ≡ is_tag_in l.opaque l.field

abbrev pub decreases-loop-opened : goal.decreases-loop-opened
decreases-loop-opened l = length l.rest
