use Rattle.std.proofs.Common.{◌≤◌}
use Rattle.transport_plan.proofs.stretches.length_class.Given as goal

abbrev pub invariant-loop-rest : goal.invariant-loop-rest
invariant-loop-rest l = l.class ≤ 36

abbrev pub decreases-loop-rest : goal.decreases-loop-rest
decreases-loop-rest l = l.rest
