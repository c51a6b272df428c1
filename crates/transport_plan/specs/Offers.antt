-- The offers of names to the points of a group: the cost of a switch, less the dual price of the new name.
use Rattle.std.specs.Prelude.{◌≡◌, ℕ, ◌^◌, ◌<◌, ℤ, pos, negsuc, ◌+ℤ◌, ◌*ℤ◌, ◌≤ℤ◌, List, length, Option, Some, None}
use Rattle.std.specs.List.{slice_index_or}

-- the largest number of a certificate that a plan file can hold
abbrev pub max_dual : ℕ
max_dual = 2 ^ 53

abbrev pub IsDualSize : ℤ → Type 0
IsDualSize z = (negsuc max_dual ≤ℤ z) × (z ≤ℤ pos max_dual)

-- the name at this place may be taken, and the switch costs an input so much
pub record MayTake (costs : List (Option ℤ)) (v : ℕ) (switch_cost : ℤ) : Type 0 where
  pub place : v < length costs
  pub switch_cost_at : slice_index_or costs v None ≡ Some switch_cost

-- the dual prices of the group and of the name at this place sum to no more than a switch costs a point's inputs, or to just that
abbrev pub HasSlack : List ℤ → ℕ → ℤ → ℕ → ℤ → Type 0
HasSlack beta count alpha v switch_cost = (alpha +ℤ slice_index_or beta v (pos 0)) ≤ℤ (pos count *ℤ switch_cost)

abbrev pub IsTight : List ℤ → ℕ → ℤ → ℕ → ℤ → Type 0
IsTight beta count alpha v switch_cost = (alpha +ℤ slice_index_or beta v (pos 0)) ≡ (pos count *ℤ switch_cost)
