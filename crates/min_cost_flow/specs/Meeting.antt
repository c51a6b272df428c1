-- The second pass: a flow within the high limits is brought to meet the low ones.
use Rattle.std.specs.Prelude.{◌≡◌, ℕ, ◌+◌, ◌-◌, ◌<◌, ◌≤◌, pos, ◌≤ℤ◌, false, Bool, List, length, nat_lt, slice_index, slice_index_or}
use Rattle.std.proofs.Common.{neg_ℤ}
use Rattle.min_cost_flow.specs.Paths.{AreTraced}
use Rattle.min_cost_flow.specs.Optimal.{IsOptimal}
use Rattle.min_cost_flow.specs.Problem.{names_of, sum_to}
use Rattle.min_cost_flow.specs.declared.problem.FlowProblem.{FlowProblem}
use Rattle.min_cost_flow.specs.Flow.{IsFlow, flows_of, total_at}
use Rattle.min_cost_flow.specs.declared.flow.Flow.{Flow}
use Rattle.min_cost_flow.specs.Found.{HasSize, predecessor_of, potential_of, rank_of}
use Rattle.min_cost_flow.specs.Network.{arc_at}
use Rattle.min_cost_flow.specs.declared.search.Search.{Search}
use Rattle.min_cost_flow.specs.Placing.{IsClosed, reach}

-- In the second pass the flow is within the high limits, and optimal by the potentials, which are not above 0 and near it; those of
-- names below their low limits are 0.
pub record IsInSecondPass (p : FlowProblem) (f : Flow) (s : Search) : Type 0 where
  pub flow : IsFlow p f
  pub optimal : IsOptimal (flows_of p f) (potential_of s)
  pub size : HasSize (names_of p + 1) s
  pub placed : (v : ℕ) → v < names_of p → total_at f v ≤ slice_index p.high.items v
  pub low : (v : ℕ) → v < names_of p + 1 → neg_ℤ (pos reach) ≤ℤ potential_of s v
  pub high : (v : ℕ) → v < names_of p + 1 → potential_of s v ≤ℤ pos 0
  pub below : (v : ℕ) → v < names_of p → total_at f v < slice_index p.low.items v → pos 0 ≤ℤ potential_of s v

-- the names below their low limits are wanted
pub record WantsBelow (p : FlowProblem) (f : Flow) (wanted : List Bool) : Type 0 where
  pub size : length wanted ≡ names_of p + 1
  pub each : (v : ℕ) → v < names_of p → slice_index_or wanted v false ≡ nat_lt (total_at f v) (slice_index p.low.items v)
  pub root : slice_index_or wanted (names_of p) false ≡ false

-- the deficit of a flow: how many points, in all, the names are below their low limits
abbrev pub deficit : FlowProblem → Flow → ℕ
deficit p f = sum_to (names_of p) (λ v. slice_index p.low.items v - total_at f v)

-- no name is below its low limit
abbrev pub MeetsLow : FlowProblem → Flow → Type 0
MeetsLow p f = (v : ℕ) → v < names_of p → slice_index p.low.items v ≤ total_at f v

-- this name is below its low limit
abbrev pub IsBelow : FlowProblem → Flow → ℕ → Type 0
IsBelow p f v = (v < names_of p) × (total_at f v < slice_index p.low.items v)

-- a search has found the shortest path from the root to a name below its low limit, and the flow is optimal by the new potentials
pub record IsPathToDeficit (p : FlowProblem) (f : Flow) (s : Search) (last : ℕ) : Type 0 where
  pub second_pass : IsInSecondPass p f s
  pub within : last < names_of p
  pub under : total_at f last < slice_index p.low.items last
  pub traced : AreTraced (names_of p) (arc_at f.arcs.items (names_of p + 1)) (potential_of s) (predecessor_of s) (rank_of s) (names_of p) last

-- the names that the last search did not settle have no points to spare, one of them is below its low limit, and no point of
-- another name may enter one
pub record IsStuckBelow (p : FlowProblem) (f : Flow) (s : Search) : Type 0 where
  pub size : HasSize (names_of p + 1) s
  pub flow : IsFlow p f
  pub placed : (v : ℕ) → v < names_of p → total_at f v ≤ slice_index p.high.items v
  pub below : ℕ
  pub within : below < names_of p
  pub unsettled : names_of p + 1 ≤ rank_of s below
  pub under : total_at f below < slice_index p.low.items below
  pub bare : (v : ℕ) → v < names_of p → names_of p + 1 ≤ rank_of s v → total_at f v ≤ slice_index p.low.items v
  pub closed : IsClosed p f s

-- the search is stuck so where a name is below its low limit
abbrev pub IsStuckIfBelow : FlowProblem → Flow → Search → Type 0
IsStuckIfBelow p f s = (v : ℕ) → v < names_of p → total_at f v < slice_index p.low.items v → IsStuckBelow p f s
