-- Which rules a request allows, and which of them cost the least.
use Rattle.std.specs.Prelude.{◌≡◌, ℕ, ◌≤◌, List, Some, false}
use Rattle.bucket_core.specs.Rule.{Entries, total_weight, at, total_of}
use Rattle.price_core.specs.Cost.{cost_of}
use Rattle.price_core.specs.Limits.{Limits, low_of, high_of}
use Rattle.price_core.specs.Pricing.{Pricing, is_forbidden}

-- the new rule has the old one's total, keeps the limits of every text, and changes no point in a forbidden way
pub record Fits (old new : Entries) (limits : Limits) (pricing : Pricing) : Type 0 where
  pub weight : total_weight new ≡ total_weight old
  pub low : (name : List ℕ) → low_of limits name ≤ total_of new name
  pub high : (name : List ℕ) → total_of new name ≤ high_of limits name
  pub allowed : (p : ℕ) (from to : List ℕ) → at old p ≡ Some from → at new p ≡ Some to → is_forbidden pricing from to ≡ false

-- the new rule fits, and no rule that fits costs the inputs less
pub record IsLeast (old new : Entries) (limits : Limits) (pricing : Pricing) (inputs : List (List ℕ)) : Type 0 where
  pub fits : Fits old new limits pricing
  pub least : (other : Entries) → Fits old other limits pricing → cost_of old new inputs pricing ≤ cost_of old other inputs pricing
