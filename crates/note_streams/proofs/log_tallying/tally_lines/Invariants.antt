use Rattle.std.proofs.Common.{◌≡◌, drop}
use Rattle.byte_streams.specs.Lines.{lines_view}
use Rattle.note_streams.proofs.Taken.{Stands}
use Rattle.note_streams.proofs.log_tallying.tally_lines.Given as goal

-- the lines so far are taken, and those that are left stand above them
abbrev pub invariant-loop-line : goal.invariant-loop-line
invariant-loop-line l = record {
  stands : Stands l.fn.page l.fn.total (lines_view l.lines) (lines_view (drop l.line-index l.lines)) l.filter;
  count : l.filter.lines ≡ l.line-index;
}
