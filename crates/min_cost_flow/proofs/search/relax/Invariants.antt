use Rattle.std.proofs.Common.{length}
use Rattle.min_cost_flow.proofs.Relaxing.{RelaxesBelow}
use Rattle.min_cost_flow.proofs.search.relax.Given as goal

abbrev pub invariant-loop-v : goal.invariant-loop-v
invariant-loop-v l = RelaxesBelow (length l.arcs) l.node l.node_distance l.arcs l.initial.nodes l.nodes l.v
