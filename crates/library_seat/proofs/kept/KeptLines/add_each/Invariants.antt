use Rattle.std.proofs.Common.{◌≡◌, drop}
use Rattle.library_seat.specs.Kept.{with_lines}
use Rattle.library_seat.specs.LinesView.{Begins, kept_view, lines_view}
use Rattle.library_seat.proofs.kept.KeptLines.add_each.Given as goal

abbrev pub invariant-loop-line : goal.invariant-loop-line
invariant-loop-line l = record {
  rest : with_lines (kept_view l.self) (lines_view (drop l.line-index l.lines)) ≡ with_lines (kept_view l.initial.self) (lines_view l.lines);
  begins : Begins l.initial.self l.self;
}
