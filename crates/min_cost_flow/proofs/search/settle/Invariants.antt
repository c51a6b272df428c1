use Rattle.std.proofs.Common.{length}
use Rattle.min_cost_flow.specs.Spent.{HasSettled}
use Rattle.min_cost_flow.proofs.Rounds.{IsRound, unsettled}
use Rattle.min_cost_flow.proofs.search.settle.Given as goal

abbrev pub invariant-loop-node : goal.invariant-loop-node
invariant-loop-node g l = record {
  round : IsRound (length l.initial.nodes) l.arcs l.potentials l.wanted l.source l.settled l.nodes;
  effort : HasSettled l.settled l.initial.effort l.effort;
}

abbrev pub decreases-loop-node : goal.decreases-loop-node
decreases-loop-node g l = unsettled (length l.initial.nodes) l.nodes
