use Rattle.std.proofs.Common.{◌≡◌, ◌<◌, ℕ, false, get_or, nat_lt}
use Rattle.min_cost_flow.specs.Problem.{names_of}
use Rattle.min_cost_flow.specs.Flow.{total_at}
use Rattle.min_cost_flow.proofs.meeting.mark_wanted.Given as goal

abbrev pub invariant-loop-name : goal.invariant-loop-name
invariant-loop-name l = record {
  each : (v : ℕ) → v < l.name → v < names_of l.problem → get_or l.wanted v false ≡ nat_lt (total_at l.flow v) (get_or l.problem.low.items v 0);
  root : get_or l.wanted (names_of l.problem) false ≡ false;
}
