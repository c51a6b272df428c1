-- Which names are marked for a cut, by number.
use Rattle.std.specs.Prelude.{◌≡◌, ℕ, ◌+◌, ◌<◌, true, false, Bool, List, length, nat_lt, slice_index_or}
use Rattle.min_cost_flow.specs.Problem.{group_at, is_allowed, names_of, switch_cost_at}
use Rattle.min_cost_flow.specs.declared.problem.FlowProblem.{FlowProblem}
use Rattle.min_cost_flow.specs.Flow.{groups_of, placed_at}
use Rattle.min_cost_flow.specs.declared.flow.Flow.{Flow}
use Rattle.min_cost_flow.specs.Found.{rank_of}
use Rattle.min_cost_flow.specs.declared.search.Search.{Search}

-- The old names of the groups with points at settled names are marked, and all that a marked name may change to is settled.
pub record AreHeld (p : FlowProblem) (f : Flow) (s : Search) (marks : List Bool) : Type 0 where
  pub size : length marks ≡ names_of p
  pub held : (g v : ℕ) → g < groups_of p → v < names_of p → 0 < placed_at p f g v → rank_of s v < names_of p + 1 → slice_index_or marks (group_at p.groups.items g).variant false ≡ true
  pub closed : (u w : ℕ) → u < names_of p → w < names_of p → slice_index_or marks u false ≡ true → is_allowed (switch_cost_at p.costs.items (names_of p) u w) ≡ true → rank_of s w < names_of p + 1

-- just the names that are not settled are marked
pub record AreUnsettled (p : FlowProblem) (s : Search) (marks : List Bool) : Type 0 where
  pub size : length marks ≡ names_of p
  pub each : (v : ℕ) → v < names_of p → slice_index_or marks v false ≡ nat_lt (names_of p) (rank_of s v)

-- a point of the group is at a settled name
abbrev pub StandsInside : FlowProblem → Flow → Search → ℕ → Type 0
StandsInside p f s group = (v : ℕ) × (v < names_of p) × (0 < placed_at p f group v) × (rank_of s v < names_of p + 1)

-- no point of the group is at a settled name
abbrev pub StandsOutside : FlowProblem → Flow → Search → ℕ → Type 0
StandsOutside p f s group = (v : ℕ) → v < names_of p → 0 < placed_at p f group v → rank_of s v < names_of p + 1 → ⊥
