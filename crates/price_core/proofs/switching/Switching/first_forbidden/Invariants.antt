use Rattle.std.proofs.Common.{◌-◌, ◌≤◌}
use Rattle.bucket_core.specs.Rule.{entry_at, total_weight}
use Rattle.price_core.proofs.Runs.{AreSpared}
use Rattle.price_core.proofs.switching.Switching.first_forbidden.Given as goal

abbrev pub invariant-loop-point : goal.invariant-loop-point
invariant-loop-point l = record {
  inside : l.point ≤ total_weight l.self.0;
  from_before : l.from ≤ entry_at l.self.0 l.point;
  to_before : l.to ≤ entry_at l.self.1 l.point;
  spared : AreSpared l.self.0 l.self.1 l.self.2 l.point;
}

abbrev pub decreases-loop-point : goal.decreases-loop-point
decreases-loop-point l = l.total - l.point
