-- What a flow costs the inputs, by number.
use Rattle.std.specs.Prelude.{◌≡◌, ℕ, ◌*◌, ◌≤◌, ℤ, pos, negsuc, List, Option, Some, None}
use Rattle.min_cost_flow.specs.Problem.{group_at, inputs_of, switch_cost_at, sum_to}
use Rattle.min_cost_flow.specs.declared.problem.Group.{Group}
use Rattle.min_cost_flow.specs.Flow.{cell_at}
use Rattle.min_cost_flow.specs.Offered.{max_switch_cost}

-- what a switch costs the inputs of a point, and 0 where it is forbidden
abbrev pub unit_of : ℕ → Option ℤ → ℕ
unit_of count None = 0
unit_of count (Some (pos switch_cost)) = count * switch_cost
unit_of count (Some (negsuc switch_cost)) = 0

-- what the points of a group cost, at the first `n` names
abbrev pub row_cost : List Group → List (Option ℤ) → List ℕ → ℕ → ℕ → ℕ → ℕ
row_cost groups costs placed names g n = sum_to n (λ v. cell_at placed names g v * unit_of (group_at groups g).count (switch_cost_at costs names (group_at groups g).variant v))

-- what the points of a group cost, which is not above what they do at the highest cost of a switch
pub record IsRowCost (groups : List Group) (costs : List (Option ℤ)) (placed : List ℕ) (names g cost : ℕ) : Type 0 where
  pub value : cost ≡ row_cost groups costs placed names g names
  pub small : cost ≤ inputs_of groups g * max_switch_cost

-- what the points of the first `n` groups cost
abbrev pub all_cost : List Group → List (Option ℤ) → List ℕ → ℕ → ℕ → ℕ
all_cost groups costs placed names n = sum_to n (λ g. row_cost groups costs placed names g names)
