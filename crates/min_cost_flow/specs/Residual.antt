-- The residual arcs from one name to the others.
use Rattle.std.specs.Prelude.{◌≡◌, ℕ, ◌<◌, ◌≤◌, ◌+◌, ◌*◌, ℤ, ◌⊎◌, ◌+ℤ◌, ◌≤ℤ◌, Bool, true, List, length, Option, Some, None, slice_index, slice_index_or, ◌≢◌, pos}
use Rattle.min_cost_flow.specs.Problem.{cost_at, may_take, names_of}
use Rattle.min_cost_flow.specs.declared.problem.Group.{Group}
use Rattle.min_cost_flow.specs.declared.arc.Arc.{Arc}
use Rattle.min_cost_flow.specs.declared.problem.FlowProblem.{FlowProblem}
use Rattle.min_cost_flow.specs.Flow.{cell_at, groups_of}
use Rattle.min_cost_flow.specs.Spans.{ArePlaced}
use Rattle.min_cost_flow.specs.declared.span.Span.{Span}
use Rattle.min_cost_flow.specs.Network.{arc_at}

-- Each arc from the name `v` is the cheapest move of a point there: groups and names are numbered, so many points of each group are
-- `here`, a group's points may take some names, and each is charged so much there.
pub record IsRow (groups names : ℕ) (may : ℕ → ℕ → Bool) (charge : ℕ → ℕ → ℤ) (here : ℕ → ℕ) (v : ℕ) (arc : ℕ → Option Arc) : Type 0 where
  pub group : (w : ℕ) (a : Arc) → w < names → arc w ≡ Some a → a.group < groups
  pub there : (w : ℕ) (a : Arc) → w < names → arc w ≡ Some a → 0 < here a.group
  pub allowed : (w : ℕ) (a : Arc) → w < names → arc w ≡ Some a → may a.group w ≡ true
  pub cost : (w : ℕ) (a : Arc) → w < names → arc w ≡ Some a → (charge a.group v +ℤ a.cost) ≡ charge a.group w
  pub least : (g w : ℕ) → g < groups → w < names → 0 < here g → may g w ≡ true → (a : Arc) × (arc w ≡ Some a) × ((charge g v +ℤ a.cost) ≤ℤ charge g w)

-- the arc is a move of a point of the group
pub record IsMoveOfGroup (may : ℕ → ℕ → Bool) (charge : ℕ → ℕ → ℤ) (g v w : ℕ) (a : Arc) : Type 0 where
  pub same_group : a.group ≡ g
  pub allowed : may g w ≡ true
  pub cost : (charge g v +ℤ a.cost) ≡ charge g w

-- the arcs from the name take the moves of a group's points where these are cheaper
pub record TakesMoves (names : ℕ) (may : ℕ → ℕ → Bool) (charge : ℕ → ℕ → ℤ) (g v : ℕ) (old new : ℕ → Option Arc) : Type 0 where
  pub change : (w : ℕ) (a : Arc) → w < names → new w ≡ Some a → (old w ≡ Some a) ⊎ IsMoveOfGroup may charge g v w a
  pub covers : (w : ℕ) → w < names → may g w ≡ true → (a : Arc) × (new w ≡ Some a) × ((charge g v +ℤ a.cost) ≤ℤ charge g w)
  pub less : (w : ℕ) (known : Arc) → w < names → old w ≡ Some known → (a : Arc) × (new w ≡ Some a) × (a.cost ≤ℤ known.cost)

-- the same of two groups, one after the other
abbrev pub TakesMovesOfBoth : (names : ℕ) (may : ℕ → ℕ → Bool) (charge : ℕ → ℕ → ℤ) (g h v : ℕ) (old new : ℕ → Option Arc) → Type 0
TakesMovesOfBoth names may charge g h v old new = (mid : ℕ → Option Arc) × TakesMoves names may charge g v old mid × TakesMoves names may charge h v mid new

-- each arc is a move of a group with points at the name
pub record AreMoves (groups names : ℕ) (may : ℕ → ℕ → Bool) (charge : ℕ → ℕ → ℤ) (here : ℕ → ℕ) (v : ℕ) (arc : ℕ → Option Arc) : Type 0 where
  pub group : (w : ℕ) (a : Arc) → w < names → arc w ≡ Some a → a.group < groups
  pub there : (w : ℕ) (a : Arc) → w < names → arc w ≡ Some a → 0 < here a.group
  pub move : (w : ℕ) (a : Arc) → w < names → arc w ≡ Some a → IsMoveOfGroup may charge a.group v w a

-- no move of a point of the group is cheaper than the arcs
abbrev pub IsCovered : ℕ → (ℕ → ℕ → Bool) → (ℕ → ℕ → ℤ) → ℕ → (ℕ → Option Arc) → ℕ → Type 0
IsCovered names may charge v arc g = (w : ℕ) → w < names → may g w ≡ true → (a : Arc) × (arc w ≡ Some a) × ((charge g v +ℤ a.cost) ≤ℤ charge g w)

-- no arc is lost, or is dearer than before
abbrev pub IsLower : ℕ → (ℕ → Option Arc) → (ℕ → Option Arc) → Type 0
IsLower names old new = (w : ℕ) (known : Arc) → w < names → old w ≡ Some known → (a : Arc) × (new w ≡ Some a) × (a.cost ≤ℤ known.cost)

-- each group with points at the name has one of its old variant with no more inputs, or no fewer, whose moves cost no less than
-- the arcs
abbrev pub HaveFirst : (groups names : ℕ) (variant count : ℕ → ℕ) (may : ℕ → ℕ → Bool) (charge : ℕ → ℕ → ℤ) (here : ℕ → ℕ) (v : ℕ) (arc : ℕ → Option Arc) → Type 0
HaveFirst groups names variant count may charge here v arc =
    (g : ℕ) → g < groups → 0 < here g → (h : ℕ) × (h < groups) × (variant h ≡ variant g) × (count h ≤ count g) × IsCovered names may charge v arc h

abbrev pub HaveLast : (groups names : ℕ) (variant count : ℕ → ℕ) (may : ℕ → ℕ → Bool) (charge : ℕ → ℕ → ℤ) (here : ℕ → ℕ) (v : ℕ) (arc : ℕ → Option Arc) → Type 0
HaveLast groups names variant count may charge here v arc =
    (g : ℕ) → g < groups → 0 < here g → (h : ℕ) × (h < groups) × (variant h ≡ variant g) × (count g ≤ count h) × IsCovered names may charge v arc h

-- The same of tables: the groups, the switch costs by old name and then by new name, the points placed by group and then by name,
-- and the row of arcs from a name.
abbrev pub arc_to : List (Option Arc) → ℕ → Option Arc
arc_to row w = slice_index_or row w None

abbrev pub IsRowOf : List Group → List (Option ℤ) → List ℕ → ℕ → ℕ → List (Option Arc) → Type 0
IsRowOf groups costs placed names v row =
    IsRow (length groups) names (may_take groups costs names) (cost_at groups costs names) (λ g. cell_at placed names g v) v (arc_to row)

abbrev pub TakesMovesIn : List Group → List (Option ℤ) → ℕ → ℕ → ℕ → List (Option Arc) → List (Option Arc) → Type 0
TakesMovesIn groups costs names g v old new = TakesMoves names (may_take groups costs names) (cost_at groups costs names) g v (arc_to old) (arc_to new)

abbrev pub TakesMovesOfBothIn : List Group → List (Option ℤ) → ℕ → ℕ → ℕ → ℕ → List (Option Arc) → List (Option Arc) → Type 0
TakesMovesOfBothIn groups costs names g h v old new = TakesMovesOfBoth names (may_take groups costs names) (cost_at groups costs names) g h v (arc_to old) (arc_to new)

-- a cell for each two nodes
abbrev pub HasArcs : ℕ → List (Option Arc) → Type 0
HasArcs names arcs = length arcs ≡ (names + 1) * (names + 1)

-- the name is one of those whose arcs they are
pub record HasArcsOf (p : FlowProblem) (v : ℕ) (arcs : List (Option Arc)) : Type 0 where
  pub size : HasArcs (names_of p) arcs
  pub within : v < names_of p

-- there are no arcs
pub record HasNoArcs (names : ℕ) (arcs : List (Option Arc)) : Type 0 where
  pub size : HasArcs names arcs
  pub none : (i : ℕ) → slice_index_or arcs i None ≡ None

-- the arcs from the name to others are right for the points here
abbrev pub HasRow : FlowProblem → (ℕ → ℕ) → ℕ → List (Option Arc) → Type 0
HasRow p here v arcs =
    IsRow (groups_of p) (names_of p) (may_take p.groups.items p.costs.items (names_of p)) (cost_at p.groups.items p.costs.items (names_of p)) here v (arc_at arcs (names_of p + 1) v)

-- no group has points at the name that may not be there
abbrev pub MayBe : FlowProblem → List ℕ → ℕ → Type 0
MayBe p placed v = (g : ℕ) → g < groups_of p → 0 < cell_at placed (names_of p) g v → may_take p.groups.items p.costs.items (names_of p) g v ≡ true

-- the same of a problem, with spans of the groups
abbrev pub ArePlacedIn : FlowProblem → List ℕ → List Span → ℕ → Type 0
ArePlacedIn p placed spans v = ArePlaced p.groups.items p.costs.items (names_of p) placed spans v

-- the tables have a number for each group and name and a total for each name, and no group has points that may not be there
pub record MayStand (p : FlowProblem) (numbers sums : List ℕ) : Type 0 where
  pub placed : length numbers ≡ groups_of p * names_of p
  pub totals : length sums ≡ names_of p
  pub free : (v : ℕ) → v < names_of p → MayBe p numbers v

-- only arcs from the name to others changed
abbrev pub ChangesRow : ℕ → ℕ → List (Option Arc) → List (Option Arc) → Type 0
ChangesRow names name old new = (v w : ℕ) → v ≤ names → w ≤ names → (v ≡ name → w < names → ⊥) → arc_at new (names + 1) v w ≡ arc_at old (names + 1) v w

-- there is an arc just where one number is below another, and it costs nothing
pub record IsRootArc (less more : ℕ) (arc : Option Arc) : Type 0 where
  pub only : (a : Arc) → arc ≡ Some a → (less < more) × (a.cost ≡ pos 0)
  pub has : less < more → (a : Arc) × (arc ≡ Some a) × (a.cost ≡ pos 0)

-- an arc leads to the root just where the name has room, and one from the root just where it has points to spare
pub record HasRootArcs (p : FlowProblem) (total v : ℕ) (arcs : List (Option Arc)) : Type 0 where
  pub room : IsRootArc total (slice_index p.high.items v) (arc_at arcs (names_of p + 1) v (names_of p))
  pub spare : IsRootArc (slice_index p.low.items v) total (arc_at arcs (names_of p + 1) (names_of p) v)

-- only the arcs between the name and the root changed
abbrev pub ChangesRootArcs : ℕ → ℕ → List (Option Arc) → List (Option Arc) → Type 0
ChangesRootArcs names name old new =
    (v w : ℕ) → v ≤ names → w ≤ names → (v ≡ name → w ≡ names → ⊥) → (v ≡ names → w ≡ name → ⊥) → arc_at new (names + 1) v w ≡ arc_at old (names + 1) v w

-- the points here are as before but those of a group
abbrev pub ChangesGroup : ℕ → (ℕ → ℕ) → (ℕ → ℕ) → Type 0
ChangesGroup group old now = (g : ℕ) → g ≢ group → now g ≡ old g

-- Arcs from the name that were right for points which differ from these at one group alone, of which there were some, are right
-- for these, and no others changed.
pub record KeepsRow (p : FlowProblem) (placed : List ℕ) (group v : ℕ) (old new : List (Option Arc)) : Type 0 where
  pub row : (before : ℕ → ℕ) → 0 < before group → ChangesGroup group before (λ g. cell_at placed (names_of p) g v) → HasRow p before v old → HasRow p (λ g. cell_at placed (names_of p) g v) v new
  pub others : ChangesRow (names_of p) v old new

-- the arcs from each name, to the root and from it are right for points placed so, with these totals
pub record AreRebuilt (p : FlowProblem) (placed totals : List ℕ) (arcs : List (Option Arc)) : Type 0 where
  pub rows : (v : ℕ) → v < names_of p → HasRow p (λ g. cell_at placed (names_of p) g v) v arcs
  pub root : (v : ℕ) → v < names_of p → HasRootArcs p (slice_index totals v) v arcs
  pub none : arc_at arcs (names_of p + 1) (names_of p) (names_of p) ≡ None
