use Rattle.transport_plan.specs.Dealing.{DealsTo}
use Rattle.transport_plan.proofs.dealing.deal_run.Given as goal

abbrev pub invariant-loop-point : goal.invariant-loop-point
invariant-loop-point l = DealsTo l.names l.stretch.group l.start l.point l.fn.left l.left l.fn.points l.points
