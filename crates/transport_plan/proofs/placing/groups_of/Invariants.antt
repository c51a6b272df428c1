use Rattle.std.proofs.Common.{◌≡◌, ℕ, ◌-◌, ◌<◌, ◌≤◌, length, get_or, Some}
use Rattle.std.specs.List.{slice_get, slice_index}
use Rattle.std.specs.Map.{keys_of}
use Rattle.transport_core.specs.Groups.{group_by, rows_view}
use Rattle.transport_plan.proofs.placing.groups_of.Given as goal

abbrev pub invariant-loop-start : goal.invariant-loop-start
invariant-loop-start l = record {
  within : l.start ≤ l.total;
  many : length l.points.items ≡ l.start;
  grouped : (q : ℕ) → q < l.start → slice_get (keys_of (rows_view l.groups)) (get_or l.points.items q 0) ≡ Some (group_by l.old (slice_index l.counts) q);
}

abbrev pub decreases-loop-start : goal.decreases-loop-start
decreases-loop-start l = l.total - l.start
