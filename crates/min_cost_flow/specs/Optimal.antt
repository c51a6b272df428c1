-- When a flow of points from groups to names is optimal, as potentials of the names and the root show, and the residual arcs along
-- which points may move (Ahuja, Magnanti, Orlin, Network Flows, sections 9.2 and 9.3).
use Rattle.std.specs.Prelude.{◌≡◌, ◌≢◌, ℕ, ◌+◌, ◌<◌, ℤ, pos, ◌+ℤ◌, ◌≤ℤ◌, Bool, true, Option, Some, None}
use Rattle.min_cost_flow.specs.declared.arc.Arc.{Arc}

-- A problem, and a flow with its totals: groups and names are numbered; a point of a group at a name costs so much, where it is
-- allowed there.
pub record Flows : Type 0 where
  pub groups : ℕ
  pub names : ℕ
  pub low : ℕ → ℕ
  pub high : ℕ → ℕ
  pub allowed : ℕ → ℕ → Bool
  pub cost : ℕ → ℕ → ℤ
  pub flow : ℕ → ℕ → ℕ
  pub total : ℕ → ℕ

-- each point is at a name of the least cost less potential
abbrev pub AreLeast : Flows → (ℕ → ℤ) → Type 0
AreLeast f potential = (g v w : ℕ) → g < f.groups → v < f.names → w < f.names → 0 < f.flow g v → f.allowed g w ≡ true → (f.cost g v +ℤ potential w) ≤ℤ (f.cost g w +ℤ potential v)

-- Each point is at a name of the least cost less potential, a name with room has no potential below that of the root, and one with
-- points to spare none above it. The root has the number after the names.
pub record IsOptimal (f : Flows) (potential : ℕ → ℤ) : Type 0 where
  pub least : AreLeast f potential
  pub room : (v : ℕ) → v < f.names → f.total v < f.high v → potential f.names ≤ℤ potential v
  pub spare : (v : ℕ) → v < f.names → f.low v < f.total v → potential v ≤ℤ potential f.names

-- The arcs between names are those along which a point may move, each the cheapest; an arc to the root, which has the number after
-- the names, shows that a name has room, and one from the root that a name has points to spare.
pub record AreResidual (f : Flows) (arc : ℕ → ℕ → Option Arc) : Type 0 where
  pub group : (v w : ℕ) (a : Arc) → v < f.names → w < f.names → arc v w ≡ Some a → a.group < f.groups
  pub there : (v w : ℕ) (a : Arc) → v < f.names → w < f.names → arc v w ≡ Some a → 0 < f.flow a.group v
  pub allowed : (v w : ℕ) (a : Arc) → v < f.names → w < f.names → arc v w ≡ Some a → f.allowed a.group w ≡ true
  pub cost : (v w : ℕ) (a : Arc) → v < f.names → w < f.names → arc v w ≡ Some a → (f.cost a.group v +ℤ a.cost) ≡ f.cost a.group w
  pub least : (g v w : ℕ) → g < f.groups → v < f.names → w < f.names → 0 < f.flow g v → f.allowed g w ≡ true → (a : Arc) × (arc v w ≡ Some a) × ((f.cost g v +ℤ a.cost) ≤ℤ f.cost g w)
  pub room : (v : ℕ) (a : Arc) → v < f.names → arc v f.names ≡ Some a → (f.total v < f.high v) × (a.cost ≡ pos 0)
  pub has_room : (v : ℕ) → v < f.names → f.total v < f.high v → (a : Arc) × (arc v f.names ≡ Some a) × (a.cost ≡ pos 0)
  pub spare : (v : ℕ) (a : Arc) → v < f.names → arc f.names v ≡ Some a → (f.low v < f.total v) × (a.cost ≡ pos 0)
  pub has_spare : (v : ℕ) → v < f.names → f.low v < f.total v → (a : Arc) × (arc f.names v ≡ Some a) × (a.cost ≡ pos 0)
  pub none : arc f.names f.names ≡ None

-- so many points of a group move from one name to another
pub record Pushes (old new : Flows) (group from to points : ℕ) : Type 0 where
  pub groups : new.groups ≡ old.groups
  pub names : new.names ≡ old.names
  pub allowed : (g v : ℕ) → new.allowed g v ≡ old.allowed g v
  pub cost : (g v : ℕ) → new.cost g v ≡ old.cost g v
  pub left : new.flow group from + points ≡ old.flow group from
  pub entered : new.flow group to ≡ old.flow group to + points
  pub others : (g v : ℕ) → v < old.names → (g ≡ group → v ≡ from → ⊥) → (g ≡ group → v ≡ to → ⊥) → new.flow g v ≡ old.flow g v

-- Where points move between names of equal cost less potential, points are still at names of the least.
abbrev pub PushesKeepLeast : Type 0
PushesKeepLeast =
    (old new : Flows) (potential : ℕ → ℤ) (group from to points : ℕ) → AreLeast old potential → Pushes old new group from to points
    → group < old.groups → from < old.names → to < old.names → from ≢ to → 0 < points
    → (old.cost group from +ℤ potential to) ≡ (old.cost group to +ℤ potential from) → AreLeast new potential
