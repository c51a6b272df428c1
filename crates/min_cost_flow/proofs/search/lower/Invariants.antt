use Rattle.std.proofs.Common.{length}
use Rattle.min_cost_flow.specs.Searched.{distance_in, settle_order_in}
use Rattle.min_cost_flow.proofs.Lowering.{LowersBelow}
use Rattle.min_cost_flow.proofs.search.lower.Given as goal

abbrev pub invariant-loop-v : goal.invariant-loop-v
invariant-loop-v l = LowersBelow (length l.nodes) l.initial.potentials l.potentials (distance_in l.nodes) (settle_order_in l.nodes) l.node_potential l.node_distance l.v
