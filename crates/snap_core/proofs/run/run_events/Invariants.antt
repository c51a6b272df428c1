use Rattle.std.proofs.Common.{◌≡◌, ◌≤◌, take, length, vec_len, vec_capacity}
use Rattle.snap_core.specs.Agreement.{Runs}
use Rattle.snap_core.specs.Event.{answers_view, events_view}
use Rattle.snap_core.specs.WorldView.{world_view}
use Rattle.snap_core.proofs.run.run_events.Given as goal

abbrev pub invariant-loop-i : goal.invariant-loop-i
invariant-loop-i l = record {
  ran : Runs (world_view l.fn.world) (events_view (take l.i l.events)) (answers_view l.answers.items) (world_view l.world);
  size : vec_len l.answers ≡ l.i;
  room : length l.events ≤ vec_capacity l.answers;
}
