use Rattle.std.proofs.Common.{◌≡◌, length}
use Rattle.transport_plan.proofs.thresholds.thresholds_of.Given as goal

abbrev pub invariant-loop-group : goal.invariant-loop-group
invariant-loop-group l = length l.thresholds.items ≡ l.group
