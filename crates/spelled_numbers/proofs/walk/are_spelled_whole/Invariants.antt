use Rattle.std.proofs.Common.{length}
use Rattle.spelled_numbers.proofs.Whole.{IsAt}
use Rattle.spelled_numbers.proofs.walk.are_spelled_whole.Given as goal

-- the rest answers as the whole, and stands behind so many bytes of the number
abbrev pub invariant-loop-byte : goal.invariant-loop-byte
invariant-loop-byte l = IsAt l.place l.number l.len l.rest l.text

abbrev pub decreases-loop-byte : goal.decreases-loop-byte
decreases-loop-byte l = length l.rest
