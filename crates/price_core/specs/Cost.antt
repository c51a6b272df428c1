-- What a new rule costs, and where it is forbidden.
use Rattle.std.specs.Prelude.{ℕ, ◌*◌, List, [], map, sum, sum_by, slice_index, position, Option, unwrap_or}
use Rattle.std.specs.List.{range_with_len, zip}
use Rattle.bucket_core.specs.Rule.{Entries, total_weight, points, at, choice}
use Rattle.price_core.specs.Pricing.{Pair, Pricing, price_of, is_forbidden}

-- the name that a rule gives an input: each rule gives one
abbrev pub name_of_input : Entries → List ℕ → List ℕ
name_of_input r input = unwrap_or (choice r input) []

-- what one input costs
abbrev pub input_cost : Entries → Entries → Pricing → List ℕ → ℕ
input_cost old new pricing input = price_of pricing (name_of_input old input) (name_of_input new input)

-- The cost of the inputs, each by the change of its name. The rules may differ in their totals.
abbrev pub cost_of : Entries → Entries → List (List ℕ) → Pricing → ℕ
cost_of old new inputs pricing = sum (map (input_cost old new pricing) inputs)

-- the name that a rule has at a point
abbrev pub name_at : Entries → ℕ → List ℕ
name_at r p = unwrap_or (at r p) []

-- what one input costs that falls on a point, of two rules of one total
abbrev pub point_cost : Entries → Entries → Pricing → ℕ → ℕ
point_cost old new pricing p = price_of pricing (name_at old p) (name_at new p)

-- The cost of so many inputs on each point, from 0 to the total, each by the change of the point's name. The rules are of one total.
abbrev pub tally_cost : Entries → Entries → List ℕ → Pricing → ℕ
tally_cost old new counts pricing = sum_by (λ p. slice_index counts p * point_cost old new pricing p) (range_with_len 0 (total_weight old))

-- the old and the new name of each point, of two rules of one total
abbrev pub changes_at : Entries → Entries → List Pair
changes_at old new = zip (points old) (points new)

-- the first point whose change is forbidden
abbrev pub first_forbidden_of : Entries → Entries → Pricing → Option ℕ
first_forbidden_of old new pricing = position (λ c. is_forbidden pricing c.0 c.1) (changes_at old new)
