use Rattle.std.proofs.Common.{length}
use Rattle.min_cost_flow.specs.Network.{potential_in}
use Rattle.min_cost_flow.specs.Searched.{distance_in, settle_order_in}
use Rattle.min_cost_flow.proofs.Nearest.{IsNearestBelow}
use Rattle.min_cost_flow.proofs.search.nearest.Given as goal

abbrev pub invariant-loop-v : goal.invariant-loop-v
invariant-loop-v l = IsNearestBelow (length l.nodes) (potential_in l.potentials) (distance_in l.nodes) (settle_order_in l.nodes) l.least l.node l.node_distance l.v
