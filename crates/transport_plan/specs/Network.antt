-- The groups of a planning problem and the prices of its switches, by the places of the names.
use Rattle.std.specs.Prelude.{◌≡◌, ℕ, ℤ, pos, List, length, map, Option, Some, None, if◌then◌else◌}
use Rattle.std.specs.List.{slice_get}
use Rattle.price_core.specs.Pricing.{Pricing, price_of, is_forbidden}
use Rattle.transport_core.specs.Groups.{GroupKey}
use Rattle.min_cost_flow.specs.declared.problem.Group.{Group}

-- the price of a switch for an input, and none where it is forbidden
abbrev pub switch_price : Pricing → List ℕ → List ℕ → Option ℤ
switch_price pricing from to = if is_forbidden pricing from to then None else Some (pos (price_of pricing from to))

-- the price of each switch from a name
abbrev pub price_row : Pricing → List (List ℕ) → List ℕ → List (Option ℤ)
price_row pricing names from = map (switch_price pricing from) names

-- the same group, with its old variant by the place among the names
pub record IsGroup (names : List (List ℕ)) (g : GroupKey × ℕ) (group : Group) : Type 0 where
  pub variant : slice_get names group.variant ≡ Some g.0.0
  pub count : group.count ≡ g.0.1
  pub points : group.points ≡ g.1

-- the same of each group, in order
pub record AreGroups (names : List (List ℕ)) (rows : List (GroupKey × ℕ)) (groups : List Group) : Type 0 where
  pub many : length groups ≡ length rows
  pub each : (i : ℕ) (g : GroupKey × ℕ) (group : Group) → slice_get rows i ≡ Some g → slice_get groups i ≡ Some group → IsGroup names g group
