use Rattle.std.proofs.Common.{drop}
use Rattle.byte_streams.specs.Lines.{lines_view}
use Rattle.note_streams.proofs.LogCounted.{Counted}
use Rattle.note_streams.proofs.counting.count_lines.Given as goal

-- the lines so far are counted
abbrev pub invariant-loop-line : goal.invariant-loop-line
invariant-loop-line l = Counted (lines_view l.lines) (lines_view (drop l.line-index l.lines)) l.counts.entries
