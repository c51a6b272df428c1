use Rattle.std.proofs.Common.{◌≡◌}
use Rattle.transport_plan.specs.Costs.{all_cost}
use Rattle.transport_plan.proofs.cost.cost_of.Given as goal

abbrev pub invariant-loop-g : goal.invariant-loop-g
invariant-loop-g l = l.cost ≡ all_cost l.groups l.costs l.placed l.names l.g
