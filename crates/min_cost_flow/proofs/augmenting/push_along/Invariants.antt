use Rattle.min_cost_flow.proofs.MovedAlong.{Moves}
use Rattle.min_cost_flow.proofs.augmenting.push_along.Given as goal

abbrev pub invariant-loop-step : goal.invariant-loop-step
invariant-loop-step l = Moves l.problem l.fn.flow l.flow l.points l.steps l.step-index
