use Rattle.std.proofs.Common.{◌-◌, ◌≤◌}
use Rattle.bucket_core.specs.Rule.{total_weight}
use Rattle.price_core.proofs.Runs.{AreSpared}
use Rattle.price_core.proofs.cost.first_forbidden.Given as goal

abbrev pub invariant-loop-point : goal.invariant-loop-point
invariant-loop-point l = record {
  inside : l.point ≤ total_weight l.old;
  spared : AreSpared l.old l.new l.prices l.point;
}

abbrev pub decreases-loop-point : goal.decreases-loop-point
decreases-loop-point l = l.total - l.point
