use Rattle.std.proofs.Common.{ℕ, ◌<◌, ◌+◌}
use Rattle.min_cost_flow.specs.Problem.{names_of}
use Rattle.min_cost_flow.specs.Flow.{placed_at}
use Rattle.min_cost_flow.specs.Found.{rank_of}
use Rattle.transport_plan.proofs.marks.stands_inside.Given as goal

abbrev pub invariant-loop-v : goal.invariant-loop-v
invariant-loop-v l = (w : ℕ) → w < l.v → 0 < placed_at l.problem l.flow l.group w → rank_of l.search w < names_of l.problem + 1 → ⊥
