use Rattle.std.proofs.Common.{◌≡◌, ◌≤◌, ◌*◌, ◌-◌, length}
use Rattle.std.specs.List.{All}
use Rattle.transport_plan.proofs.thresholds.ranks_of.Given as goal

abbrev pub invariant-loop-start : goal.invariant-loop-start
invariant-loop-start l = record {
  within : l.start ≤ length l.points;
  many : length l.sizes.items ≡ length l.bases * 200;
  few : All (λ s. s ≤ l.start) l.sizes.items;
}

abbrev pub decreases-loop-start : goal.decreases-loop-start
decreases-loop-start l = length l.points - l.start
