use Rattle.std.proofs.Common.{◌+◌, ◌<◌, ◌≤◌, ℕ, get_or}
use Rattle.min_cost_flow.specs.Flow.{total_at}
use Rattle.min_cost_flow.specs.Effort.{Searches, nodes_of}
use Rattle.min_cost_flow.specs.Placing.{IsInFirstPass, excess}
use Rattle.min_cost_flow.proofs.placing.place_within_high.Given as goal

abbrev pub invariant-loop-name : goal.invariant-loop-name
invariant-loop-name g l = record {
  first_pass : IsInFirstPass l.problem l.flow l.search;
  placed : (v : ℕ) → v < l.name → total_at l.flow v ≤ get_or l.problem.high.items v 0;
  excess : l.effort.augmentations + excess l.problem l.flow ≤ l.initial.effort.augmentations + excess l.problem l.initial.flow;
  searches : Searches (nodes_of l.problem) 0 l.initial.effort l.effort;
}
