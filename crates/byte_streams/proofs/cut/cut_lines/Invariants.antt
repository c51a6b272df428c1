use Rattle.std.proofs.Common.{◌≤◌, ◌+◌, length}
use Rattle.byte_streams.specs.Lines.{IsCut, lines_view}
use Rattle.byte_streams.proofs.cut.cut_lines.Given as goal

abbrev pub invariant-lines : goal.invariant-lines
invariant-lines l = record {
  cut : IsCut l.bytes (lines_view l.lines.items) l.rest;
  fewer : length l.lines.items + length l.rest ≤ length l.bytes;
}

abbrev pub decreases-lines : goal.decreases-lines
decreases-lines l = length l.rest
