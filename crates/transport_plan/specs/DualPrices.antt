-- The dual prices of names and groups, by number.
use Rattle.std.specs.Prelude.{◌≡◌, ℕ, ◌-◌, ◌<◌, ◌^◌, ℤ, pos, negsuc, ◌+ℤ◌, ◌*ℤ◌, ◌≤ℤ◌, List, Option, Some, slice_index_or}
use Rattle.min_cost_flow.specs.Problem.{group_at, switch_cost_at}
use Rattle.min_cost_flow.specs.declared.problem.Group.{Group}

-- a potential, not above 0, so near it that a plan file can hold the difference of two
pub record IsNear (z : ℤ) : Type 0 where
  pub low : negsuc (2 ^ 53 - 2) ≤ℤ z
  pub high : z ≤ℤ pos 0

-- the dual price of a group: the least that a switch of one of its points costs, less the dual price of the new name
pub record IsLeastAt (groups : List Group) (costs : List (Option ℤ)) (width : ℕ) (beta : List ℤ) (g : ℕ) (alpha : ℤ) : Type 0 where
  pub slack : (w : ℕ) (c : ℤ) → w < width → switch_cost_at costs width (group_at groups g).variant w ≡ Some c → (alpha +ℤ slice_index_or beta w (pos 0)) ≤ℤ (pos (group_at groups g).count *ℤ c)
  pub tight : (w : ℕ) × (c : ℤ) × (w < width) × (switch_cost_at costs width (group_at groups g).variant w ≡ Some c) × ((alpha +ℤ slice_index_or beta w (pos 0)) ≡ (pos (group_at groups g).count *ℤ c))
