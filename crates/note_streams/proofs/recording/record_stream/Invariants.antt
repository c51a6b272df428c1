use Rattle.std.proofs.Common.{◌≡◌, ◌≤◌, ◌+◌, ◌-◌, false, length}
use Rattle.note_streams.specs.Record.{most_line}
use Rattle.note_streams.specs.Outcomes.{contexts}
use Rattle.note_streams.specs.Scene.{scene_of}
use Rattle.note_streams.specs.View.{outcomes_view}
use Rattle.note_streams.proofs.Batches.{Known}
use Rattle.note_streams.proofs.Counts.{KnownCounts}
use Rattle.note_streams.proofs.recording.record_stream.Given as goal

abbrev pub invariant-batches : goal.invariant-batches
invariant-batches g l = record {
  unbroken : g.I.Inlet.is_broken l.input ≡ false;
  whole : g.O.Outlet.is_broken l.out ≡ false;
  room : length l.piece.items ≡ 1048576;
  short : length l.held.items ≤ most_line;
  few : l.totals.lines + length l.held.items ≤ l.taken;
  fewer : contexts (outcomes_view l.totals.outcomes) ≤ l.totals.lines;
  counts : KnownCounts (scene_of l.recorder) l.held.items (outcomes_view l.totals.outcomes) (g.I.Inlet.bytes l.initial.input) (g.I.Inlet.bytes l.input);
  stands : Known (scene_of l.recorder) l.held.items l.totals.lines l.taken (g.I.Inlet.bytes l.initial.input) (g.I.Inlet.bytes l.input) (g.O.Outlet.bytes l.initial.out) (g.O.Outlet.bytes l.out);
}

abbrev pub decreases-batches : goal.decreases-batches
decreases-batches g l = 1152921504606846977 - l.taken
