use Rattle.std.proofs.Common.{◌≡◌, ◌≤◌, length}
use Rattle.std.specs.Map.{keys_of}
use Rattle.transport_core.specs.Groups.{rows_view}
use Rattle.transport_plan.proofs.Places.{HaveNames}
use Rattle.transport_plan.proofs.placing.families_of.Given as goal

abbrev pub invariant-loop-place : goal.invariant-loop-place
invariant-loop-place l = record {
  many : length l.families.items ≡ l.place;
  first : l.first ≤ l.place;
  named : HaveNames (keys_of (rows_view l.groups)) l.families.items l.place;
}
