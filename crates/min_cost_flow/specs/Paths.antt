-- Augmenting paths of a residual network: points may move along arcs of reduced cost 0 (Ahuja, Magnanti, Orlin, Network
-- Flows, section 9.7).
use Rattle.std.specs.Prelude.{◌≡◌, ◌≢◌, ℕ, ◌+◌, ◌-◌, ◌<◌, ◌≤◌, ◌⊎◌, ℤ, ◌+ℤ◌, true, List, [], ◌∷◌, length, Option, Some, min, slice_index}
use Rattle.std.specs.List.{All, AllPairs, Any}
use Rattle.min_cost_flow.specs.Problem.{may_take, cost_at, names_of}
use Rattle.min_cost_flow.specs.declared.problem.FlowProblem.{FlowProblem}
use Rattle.min_cost_flow.specs.Flow.{flows_of, groups_of, placed_at, total_at}
use Rattle.min_cost_flow.specs.Optimal.{AreLeast}
use Rattle.min_cost_flow.specs.declared.flow.Flow.{Flow}
use Rattle.min_cost_flow.specs.Found.{HasSize, predecessor_of, potential_of, rank_of}
use Rattle.min_cost_flow.specs.Network.{arc_at}
use Rattle.min_cost_flow.specs.Searched.{IsTight}
use Rattle.min_cost_flow.specs.declared.arc.Arc.{Arc}
use Rattle.min_cost_flow.specs.declared.search.Search.{Search}
use Rattle.min_cost_flow.specs.declared.augmenting.Path.{Path}
use Rattle.min_cost_flow.specs.declared.augmenting.Step.{Step}

-- points of the group may move along the step
pub record IsStep (p : FlowProblem) (f : Flow) (s : Step) : Type 0 where
  pub group : s.group < groups_of p
  pub from : s.from < names_of p
  pub to : s.to < names_of p
  pub apart : s.from ≢ s.to
  pub allowed : may_take p.groups.items p.costs.items (names_of p) s.group s.to ≡ true
  pub there : 0 < placed_at p f s.group s.from

-- the steps lead from the first name to the last
abbrev pub Leads : ℕ → ℕ → List Step → Type 0
Leads first last [] = first ≡ last
Leads first last (s ∷ steps) = (s.to ≡ last) × Leads first s.from steps

-- the reduced cost of the step is 0: the cost less the potential of the name is the same at both names
abbrev pub HasZeroReducedCost : FlowProblem → (ℕ → ℤ) → Step → Type 0
HasZeroReducedCost p potential s =
    (cost_at p.groups.items p.costs.items (names_of p) s.group s.from +ℤ potential s.to) ≡ (cost_at p.groups.items p.costs.items (names_of p) s.group s.to +ℤ potential s.from)

-- steps that may be taken one after the other, each away from another name
pub record IsPath (p : FlowProblem) (f : Flow) (potential : ℕ → ℤ) (first last : ℕ) (steps : List Step) : Type 0 where
  pub begins : first < names_of p
  pub leads : Leads first last steps
  pub each : All (IsStep p f) steps
  pub reduced_zero : All (HasZeroReducedCost p potential) steps
  pub apart : AllPairs (λ s t. s.from ≢ t.from) steps

-- each settled node, and the last one, is the source or has a predecessor from which an arc of reduced cost 0 leads to it
abbrev pub AreTraced : ℕ → (ℕ → ℕ → Option Arc) → (ℕ → ℤ) → (ℕ → ℕ) → (ℕ → ℕ) → ℕ → ℕ → Type 0
AreTraced names arc potential predecessor rank source last = (v : ℕ) → v < names + 1 → (rank v < names + 1) ⊎ (v ≡ last) → (v ≡ source) ⊎ IsTight (names + 1) arc potential predecessor rank v

-- a path may begin at the name: it is the source, or an arc leads to it from the root, which was settled
abbrev pub MayBegin : FlowProblem → Flow → (ℕ → ℕ) → ℕ → ℕ → Type 0
MayBegin p f rank source v =
    (v ≡ source) ⊎ ((rank (names_of p) < names_of p + 1) × ((a : Arc) × (arc_at f.arcs.items (names_of p + 1) (names_of p) v ≡ Some a)))

-- the path begins at the source, or at a name to which an arc of reduced cost 0 leads from the root, which was settled
pub record IsTraced (p : FlowProblem) (f : Flow) (potential : ℕ → ℤ) (rank : ℕ → ℕ) (source last : ℕ) (path : Path) : Type 0 where
  pub steps : IsPath p f potential path.first last path.steps.items
  pub start : (path.first ≡ source) ⊎ ((a : Arc) × (arc_at f.arcs.items (names_of p + 1) (names_of p) path.first ≡ Some a) × (potential path.first ≡ (potential (names_of p) +ℤ a.cost)))
  pub settled : (path.first ≡ source) ⊎ (rank (names_of p) < names_of p + 1)

-- A search has found a path to the last name, on which points may move: the first name of it is above its limit, and the last one
-- below its own.
pub record MayAugment (p : FlowProblem) (f : Flow) (s : Search) (limits : List ℕ) (source last : ℕ) : Type 0 where
  pub least : AreLeast (flows_of p f) (potential_of s)
  pub size : HasSize (names_of p + 1) s
  pub many : length limits ≡ names_of p
  pub within : last < names_of p
  pub traced : AreTraced (names_of p) (arc_at f.arcs.items (names_of p + 1)) (potential_of s) (predecessor_of s) (rank_of s) source last
  pub above : (v : ℕ) → v < names_of p → MayBegin p f (rank_of s) source v → slice_index limits v < total_at f v
  pub below : total_at f last < slice_index limits last

-- so many points may move along each of the steps, one after the other
pub record MayMoveAlong (p : FlowProblem) (f : Flow) (steps : List Step) (points : ℕ) : Type 0 where
  pub each : All (IsStep p f) steps
  pub apart : AllPairs (λ s t. s.from ≢ t.from) steps
  pub some : 0 < points
  pub wide : All (λ s. points ≤ placed_at p f s.group s.from) steps

-- So many points are the bottleneck, of the most that may move: each step takes them, and they are the most or a step takes no more.
pub record IsBottleneck (p : FlowProblem) (f : Flow) (steps : List Step) (most points : ℕ) : Type 0 where
  pub within : points ≤ most
  pub wide : All (λ s. points ≤ placed_at p f s.group s.from) steps
  pub narrow : (points ≡ most) ⊎ Any (λ s. points ≡ placed_at p f s.group s.from) steps

-- Points moved along a path from its first name to the last, as many as its bottleneck: the first name is not below its limit now,
-- and the last one not above its own.
pub record IsAugmented (p : FlowProblem) (old new : Flow) (potential : ℕ → ℤ) (rank : ℕ → ℕ) (limits : List ℕ) (source last : ℕ) : Type 0 where
  pub first : ℕ
  pub points : ℕ
  pub steps : List Step
  pub path : IsPath p old potential first last steps
  pub bottleneck : IsBottleneck p old steps (min (total_at old first - slice_index limits first) (slice_index limits last - total_at old last)) points
  pub begins : first < names_of p
  pub start : (first ≡ source) ⊎ ((a : Arc) × (arc_at old.arcs.items (names_of p + 1) (names_of p) first ≡ Some a) × (potential first ≡ (potential (names_of p) +ℤ a.cost)))
  pub settled : (first ≡ source) ⊎ (rank (names_of p) < names_of p + 1)
  pub apart : first ≢ last
  pub some : 0 < points
  pub left : total_at new first + points ≡ total_at old first
  pub entered : total_at new last ≡ total_at old last + points
  pub others : (v : ℕ) → v ≢ first → v ≢ last → total_at new v ≡ total_at old v
  pub above : slice_index limits first ≤ total_at new first
  pub below : total_at new last ≤ slice_index limits last
