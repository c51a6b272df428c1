use Rattle.std.proofs.Common.{◌≡◌, ◌<◌, ℕ, false, get_or, nat_lt}
use Rattle.min_cost_flow.specs.Problem.{names_of}
use Rattle.min_cost_flow.specs.Found.{rank_of}
use Rattle.transport_plan.proofs.marks.mark_unsettled.Given as goal

abbrev pub invariant-loop-name : goal.invariant-loop-name
invariant-loop-name l = (v : ℕ) → v < l.name → v < names_of l.problem → get_or l.marks v false ≡ nat_lt (names_of l.problem) (rank_of l.search v)
