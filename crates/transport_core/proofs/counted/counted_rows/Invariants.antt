use Rattle.std.proofs.Common.{ℕ, ◌<◌, ◌≤◌}
use Rattle.std.specs.List.{slice_index}
use Rattle.bucket_core.specs.Rule.{end_of, total_weight}
use Rattle.transport_core.specs.Groups.{rows_view}
use Rattle.transport_core.specs.Rows.{CoversPoints}
use Rattle.transport_core.proofs.counted.counted_rows.Given as goal

abbrev pub invariant-loop-entry : goal.invariant-loop-entry
invariant-loop-entry l = record {
  below : l.point ≤ total_weight l.rule;
  ended : (k : ℕ) → k < l.entry → end_of l.rule k ≤ l.point;
  covers : CoversPoints l.rule (slice_index l.counts) l.point (rows_view l.rows.items);
}
