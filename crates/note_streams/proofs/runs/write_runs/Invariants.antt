use Rattle.std.proofs.Common.{◌≡◌, false, drop}
use Rattle.note_streams.specs.View.{outcomes_view}
use Rattle.note_streams.specs.Runs.{runs_view}
use Rattle.note_streams.proofs.Counts.{StillCounts}
use Rattle.note_streams.proofs.Running.{Underway}
use Rattle.note_streams.proofs.runs.write_runs.Given as goal

abbrev pub invariant-loop-run : goal.invariant-loop-run
invariant-loop-run g l = record {
  whole : g.O.Outlet.is_broken l.out ≡ false;
  counts : StillCounts l.runs l.run-index (outcomes_view l.outcomes) (runs_view l.runs).outcomes;
  under : Underway (g.O.Outlet.bytes l.fn.out) (g.O.Outlet.bytes l.out) l.lines (runs_view (drop l.run-index l.runs)) (runs_view l.runs);
}
