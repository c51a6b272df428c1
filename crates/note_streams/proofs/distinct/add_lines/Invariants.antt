use Rattle.std.proofs.Common.{◌≡◌, ◌++◌, length}
use Rattle.byte_streams.specs.Lines.{lines_view}
use Rattle.note_streams.specs.LogLines.{lines_in}
use Rattle.note_streams.proofs.distinct.add_lines.Given as goal

-- the lines so far, and those of the rest, are those before and those of all
abbrev pub invariant-cuts : goal.invariant-cuts
invariant-cuts l = lines_view l.lines.items ++ lines_in l.rest ≡ lines_view l.fn.lines.items ++ lines_in l.bytes

abbrev pub decreases-cuts : goal.decreases-cuts
decreases-cuts l = length l.rest
