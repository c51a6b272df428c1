-- The first pass: points are placed within the high limits, name by name.
use Rattle.std.specs.Prelude.{◌≡◌, ℕ, ◌*◌, ◌+◌, ◌-◌, ◌<◌, ◌≤◌, pos, ◌≤ℤ◌, true, Bool, List, length, slice_get, slice_index, Some}
use Rattle.std.proofs.Common.{neg_ℤ}
use Rattle.min_cost_flow.specs.Paths.{AreTraced}
use Rattle.min_cost_flow.specs.Optimal.{IsOptimal}
use Rattle.min_cost_flow.specs.Problem.{may_take_in, names_of, sum_to}
use Rattle.min_cost_flow.specs.declared.problem.FlowProblem.{FlowProblem}
use Rattle.min_cost_flow.specs.Flow.{IsFlow, flows_of, groups_of, placed_at, total_at}
use Rattle.min_cost_flow.specs.declared.flow.Flow.{Flow}
use Rattle.min_cost_flow.specs.Found.{HasSize, predecessor_of, potential_of, rank_of}
use Rattle.min_cost_flow.specs.Network.{arc_at, max_cost}
use Rattle.min_cost_flow.specs.declared.search.Search.{Search}

-- how far potentials fall below that of the wanted node of a search
abbrev pub reach : ℕ
reach = 2 * (65 * max_cost)

-- the excess of a flow: how many points, in all, the names are above their high limits
abbrev pub excess : FlowProblem → Flow → ℕ
excess p f = sum_to (names_of p) (λ v. total_at f v - slice_index p.high.items v)

-- In the first pass the flow is optimal by the potentials: that of the root is 0, and the others are not above it, and near it.
pub record IsInFirstPass (p : FlowProblem) (f : Flow) (s : Search) : Type 0 where
  pub flow : IsFlow p f
  pub optimal : IsOptimal (flows_of p f) (potential_of s)
  pub size : HasSize (names_of p + 1) s
  pub root : potential_of s (names_of p) ≡ pos 0
  pub low : (v : ℕ) → v < names_of p + 1 → neg_ℤ (pos reach) ≤ℤ potential_of s v
  pub high : (v : ℕ) → v < names_of p + 1 → potential_of s v ≤ℤ pos 0

-- only the root is wanted
pub record WantsRoot (p : FlowProblem) (wanted : List Bool) : Type 0 where
  pub size : length wanted ≡ names_of p + 1
  pub root : slice_get wanted (names_of p) ≡ Some true
  pub only : (v : ℕ) → slice_get wanted v ≡ Some true → v ≡ names_of p

-- names that were within their high limits stay so
abbrev pub StayPlaced : FlowProblem → Flow → Flow → Type 0
StayPlaced p old new = (v : ℕ) → total_at old v ≤ slice_index p.high.items v → total_at new v ≤ slice_index p.high.items v

-- no name is above its high limit
abbrev pub MeetsHigh : FlowProblem → Flow → Type 0
MeetsHigh p f = (v : ℕ) → v < names_of p → total_at f v ≤ slice_index p.high.items v

-- the name is within its high limit, names that were so stay so, and the flow is still in the first pass
abbrev pub IsEmptied : FlowProblem → Flow → Flow → Search → ℕ → Type 0
IsEmptied p old new s from = IsInFirstPass p new s × (total_at new from ≤ slice_index p.high.items from) × StayPlaced p old new

-- this name is above its high limit
pub record IsAbove (p : FlowProblem) (f : Flow) (v : ℕ) : Type 0 where
  pub within : v < names_of p
  pub over : slice_index p.high.items v < total_at f v

-- points moved away from the name: it has fewer, names within their high limits stay so, and in all fewer points are above them
pub record IsFilled (p : FlowProblem) (old new : Flow) (s : Search) (from : ℕ) : Type 0 where
  pub first_pass : IsInFirstPass p new s
  pub fewer : total_at new from < total_at old from
  pub placed : StayPlaced p old new
  pub lower : excess p new < excess p old

-- a search has found the shortest path to the root: its last name has room, and the flow is in the first pass by the new potentials
pub record IsPathToRoom (p : FlowProblem) (f : Flow) (s : Search) (from last : ℕ) : Type 0 where
  pub first_pass : IsInFirstPass p f s
  pub within : last < names_of p
  pub room : total_at f last < slice_index p.high.items last
  pub level : potential_of s last ≡ potential_of s (names_of p)
  pub unsettled : rank_of s (names_of p) < names_of p + 1 → ⊥
  pub traced : AreTraced (names_of p) (arc_at f.arcs.items (names_of p + 1)) (potential_of s) (predecessor_of s) (rank_of s) from last

-- no point at a settled name may take one that is not settled
abbrev pub IsClosed : FlowProblem → Flow → Search → Type 0
IsClosed p f s =
    (g v w : ℕ) → g < groups_of p → v < names_of p → w < names_of p → 0 < placed_at p f g v → rank_of s v < names_of p + 1
    → may_take_in p g w ≡ true → rank_of s w < names_of p + 1

-- the names that the last search settled are full, one of them is above its high limit, and no point leaves them
pub record IsStuckAbove (p : FlowProblem) (f : Flow) (s : Search) : Type 0 where
  pub size : HasSize (names_of p + 1) s
  pub above : ℕ
  pub within : above < names_of p
  pub settled : rank_of s above < names_of p + 1
  pub over : slice_index p.high.items above < total_at f above
  pub full : (v : ℕ) → v < names_of p → rank_of s v < names_of p + 1 → slice_index p.high.items v ≤ total_at f v
  pub closed : IsClosed p f s
