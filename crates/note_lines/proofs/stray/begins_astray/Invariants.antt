use Rattle.std.proofs.Common.{Bool}
use Rattle.byte_streams.specs.Lines.{parts_of}
use Rattle.note_lines.specs.Astray.{IsAstray}
use Rattle.note_lines.proofs.stray.begins_astray.Given as goal

-- what is said of the lines that are left is said of all
abbrev pub invariant-lines : goal.invariant-lines
invariant-lines l = (found : Bool) → IsAstray l.left (parts_of l.rest) found → IsAstray l.most (parts_of l.bytes) found

abbrev pub decreases-lines : goal.decreases-lines
decreases-lines l = l.left
