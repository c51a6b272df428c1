use Rattle.min_cost_flow.specs.Found.{potential_of, rank_of}
use Rattle.min_cost_flow.proofs.Tracing.{Traces}
use Rattle.min_cost_flow.proofs.augmenting.trace.Given as goal

abbrev pub invariant-loop-from : goal.invariant-loop-from
invariant-loop-from l = Traces l.problem l.flow (potential_of l.search) (rank_of l.search) l.last l.to l.steps.items

abbrev pub decreases-loop-from : goal.decreases-loop-from
decreases-loop-from l = rank_of l.search l.to
