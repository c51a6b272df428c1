use Rattle.std.proofs.Common.{◌≡◌, ◌+◌, ◌++◌, length, take, drop}
use Rattle.std.specs.List.{concat}
use Rattle.library_seat.specs.LinesView.{lines_view}
use Rattle.library_seat.proofs.kept.KeptLines.copy_to.Given as goal

abbrev pub invariant-loop-line : goal.invariant-loop-line
invariant-loop-line l = record {
  whole : take l.end l.out ++ concat (lines_view (drop l.line-index l.line-items)) ≡ concat (lines_view l.self.lines.keys);
  after : drop l.end l.out ≡ drop l.end l.initial.out;
  length_same : length l.out ≡ length l.initial.out;
  end_within : l.end + length (concat (lines_view (drop l.line-index l.line-items))) ≡ length (concat (lines_view l.self.lines.keys));
}
