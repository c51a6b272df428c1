use Rattle.std.proofs.Common.{◌≡◌, ◌<◌, length, Some}
use Rattle.std.specs.List.{slice_get}
use Rattle.std.specs.Map.{keys_of}
use Rattle.transport_core.specs.Groups.{rows_view}
use Rattle.transport_plan.specs.Placing.{AddsPlaces}
use Rattle.transport_plan.proofs.placing.push_groups.Given as goal

abbrev pub invariant-loop-count : goal.invariant-loop-count
invariant-loop-count l = record {
  inside : l.group < length l.groups;
  known : slice_get (keys_of (rows_view l.groups)) l.group ≡ Some (l.name, l.known);
  added : AddsPlaces (keys_of (rows_view l.groups)) l.name l.counts l.count-index l.fn.points.items l.points.items;
}
