use Rattle.std.proofs.Common.{◌<◌, ◌≤◌, ℕ, get_or}
use Rattle.min_cost_flow.specs.Problem.{names_of}
use Rattle.min_cost_flow.specs.Flow.{total_at}
use Rattle.min_cost_flow.proofs.meeting.name_below.Given as goal

abbrev pub invariant-loop-name : goal.invariant-loop-name
invariant-loop-name l = (v : ℕ) → v < l.name → v < names_of l.problem → get_or l.problem.low.items v 0 ≤ total_at l.flow v
