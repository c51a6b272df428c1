use Rattle.min_cost_flow.specs.Problem.{names_of}
use Rattle.min_cost_flow.specs.Found.{rank_of}
use Rattle.transport_plan.proofs.Holding.{Holding}
use Rattle.transport_plan.proofs.marks.mark_held.Given as goal

abbrev pub invariant-loop-group : goal.invariant-loop-group
invariant-loop-group l = Holding (names_of l.problem) l.problem.groups.items l.problem.costs.items l.flow.placed.items (rank_of l.search) l.marks l.group
