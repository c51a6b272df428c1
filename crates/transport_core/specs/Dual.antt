-- Dual prices: numbers for points and names that show how little a rule that fits can cost (linear programming duality for
-- minimum cost flows; Ahuja, Magnanti, Orlin, Network Flows, section 9.4).
use Rattle.std.specs.Prelude.{◌≡◌, ℕ, ◌<◌, ◌*◌, ◌==◌, ℤ, pos, ◌+ℤ◌, ◌*ℤ◌, ◌≤ℤ◌, List, Some, false, count_by}
use Rattle.std.specs.List.{Contains, range_with_len}
use Rattle.std.specs.Int.{int_max, int_min}
use Rattle.std.specs.Map.{keys_of}
use Rattle.bucket_core.specs.Point.{point_of}
use Rattle.bucket_core.specs.Rule.{Entries, total_weight, at}
use Rattle.price_core.specs.Limits.{Limits}
use Rattle.price_core.specs.Pricing.{Pricing, price_of, is_forbidden}
use Rattle.transport_core.specs.Sum.{sum_z}

-- how many inputs fall on a point
abbrev pub inputs_at : ℕ → List (List ℕ) → ℕ → ℕ
inputs_at total inputs p = count_by (λ k. point_of total k == p) inputs

-- low * max(beta, 0) + high * min(beta, 0): the least that a total within the limits can make of beta
abbrev pub least_value : ℕ × ℕ → ℤ → ℤ
least_value limit beta = (pos limit.0 *ℤ int_max beta (pos 0)) +ℤ (pos limit.1 *ℤ int_min beta (pos 0))

-- the numbers alpha of the points and beta of the names prove this cost
pub record IsDual (old : Entries) (limits : Limits) (pricing : Pricing) (inputs : List (List ℕ)) (alpha : ℕ → ℤ) (beta : List ℕ → ℤ) (cost : ℕ) : Type 0 where
  -- alpha is equal on points of equal name and equal number of inputs
  pub even : (p q : ℕ) → p < total_weight old → q < total_weight old → at old p ≡ at old q → inputs_at (total_weight old) inputs p ≡ inputs_at (total_weight old) inputs q → alpha p ≡ alpha q
  -- where the change is not forbidden, alpha and beta sum to at most what it costs the inputs of the point
  pub slack : (p : ℕ) (from to : List ℕ) → at old p ≡ Some from → Contains (keys_of limits) to → is_forbidden pricing from to ≡ false
      → (alpha p +ℤ beta to) ≤ℤ pos (inputs_at (total_weight old) inputs p * price_of pricing from to)
  -- the sum of alpha over the points and of beta at the limits is the cost
  pub sum : (sum_z alpha (range_with_len 0 (total_weight old)) +ℤ sum_z (λ l. least_value l.1 (beta l.0)) limits) ≡ pos cost
