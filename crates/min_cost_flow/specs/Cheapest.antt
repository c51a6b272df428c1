-- The cheapest flow within all limits, as potentials show, and how the passes end.
use Rattle.std.specs.Prelude.{◌≡◌, ℕ, ◌+◌, ◌<◌, ◌≤◌, pos, ◌≤ℤ◌, slice_index}
use Rattle.std.proofs.Common.{neg_ℤ}
use Rattle.min_cost_flow.specs.Optimal.{IsOptimal}
use Rattle.min_cost_flow.specs.Problem.{names_of}
use Rattle.min_cost_flow.specs.declared.problem.FlowProblem.{FlowProblem}
use Rattle.min_cost_flow.specs.Flow.{IsFlow, flows_of, total_at}
use Rattle.min_cost_flow.specs.Meeting.{IsStuckBelow}
use Rattle.min_cost_flow.specs.declared.cheapest.Outcome.{Outcome}
use Rattle.min_cost_flow.specs.declared.cheapest.Outcome.TheVariants as outcomes
use Rattle.min_cost_flow.specs.declared.flow.Flow.{Flow}
use Rattle.min_cost_flow.specs.Found.{HasSize, potential_of}
use Rattle.min_cost_flow.specs.declared.search.Search.{Search}
use Rattle.min_cost_flow.specs.Placing.{IsStuckAbove, reach}

-- each name is within its limits, and the flow is optimal by the potentials, which are not above 0 and near it
pub record IsCheapest (p : FlowProblem) (f : Flow) (s : Search) : Type 0 where
  pub optimal : IsOptimal (flows_of p f) (potential_of s)
  pub lows : (v : ℕ) → v < names_of p → slice_index p.low.items v ≤ total_at f v
  pub highs : (v : ℕ) → v < names_of p → total_at f v ≤ slice_index p.high.items v
  pub size : HasSize (names_of p + 1) s
  pub low : (v : ℕ) → v < names_of p + 1 → neg_ℤ (pos reach) ≤ℤ potential_of s v
  pub high : (v : ℕ) → v < names_of p + 1 → potential_of s v ≤ℤ pos 0

-- the flow and the search that the passes left, by how they ended
pub record IsPassed (p : FlowProblem) (outcome : Outcome) (f : Flow) (s : Search) : Type 0 where
  pub flow : IsFlow p f
  pub cheapest : outcome ≡ outcomes.Cheapest → IsCheapest p f s
  pub over : outcome ≡ outcomes.Over → IsStuckAbove p f s
  pub under : outcome ≡ outcomes.Under → IsStuckBelow p f s
