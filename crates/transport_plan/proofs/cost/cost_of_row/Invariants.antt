use Rattle.std.proofs.Common.{◌≡◌}
use Rattle.transport_plan.specs.Costs.{row_cost}
use Rattle.transport_plan.proofs.cost.cost_of_row.Given as goal

abbrev pub invariant-loop-v : goal.invariant-loop-v
invariant-loop-v l = l.cost ≡ row_cost l.groups l.costs l.placed l.names l.g l.v
