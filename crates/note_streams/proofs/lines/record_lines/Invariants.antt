use Rattle.std.proofs.Common.{◌≡◌, ◌≤◌, false, drop}
use Rattle.note_streams.specs.Lines.{lines_view}
use Rattle.note_streams.specs.Record.{joined, record_of}
use Rattle.note_streams.specs.Scene.{scene_of}
use Rattle.note_streams.specs.View.{recorded_view}
use Rattle.note_streams.proofs.Folded.{Few}
use Rattle.note_streams.proofs.lines.record_lines.Given as goal

abbrev pub invariant-loop-line : goal.invariant-loop-line
invariant-loop-line l = record {
  rest : joined (recorded_view l.out) (record_of (scene_of l.recorder) (lines_view (drop l.line-index l.lines))) ≡ record_of (scene_of l.recorder) (lines_view l.lines);
  open_ : l.out.refused ≡ false;
  room : l.out.lines ≤ l.line-index;
  few : Few (recorded_view l.out);
}
