-- What the inputs cost in all, input by input.
use Rattle.std.proofs.Common.{◌≡◌, ℕ, ◌*◌, ◌<◌, ◌≤◌, ◌^◌, List, [], ◌∷◌, map, length, sum, sum_by, refl, ap, arith}
use Rattle.std.proofs.lemmas.List.Sums.{sum-map, sum_by-cons}
use Rattle.bucket_core.specs.Rule.{Entries}
use Rattle.price_core.specs.Cost.{cost_of, input_cost, name_of_input}
use Rattle.price_core.specs.Pricing.{Pricing, IsPricing}
use Rattle.price_core.proofs.Pricings.{price_small}

-- inputs whose texts are seen by `text`
module _ {X : Type 0} (text : X → List ℕ) (old new : Entries) (pricing : Pricing) where
  -- the cost of one
  abbrev pub text_cost : X → ℕ
  text_cost input = input_cost old new pricing (text input)

  each_text : (inputs : List X) → map text_cost inputs ≡ map (input_cost old new pricing) (map text inputs)
  each_text [] = refl
  each_text (i ∷ is) = ap (λ ns. text_cost i ∷ ns) (each_text is)

  pub cost_of_texts : (inputs : List X) → sum (map text_cost inputs) ≡ cost_of old new (map text inputs) pricing
  cost_of_texts inputs = ap sum (each_text inputs)

  cost_small : (inputs : List X) → IsPricing pricing → sum_by text_cost inputs ≤ 1000000 * length inputs
  cost_small [] lawful = omega arith
  cost_small (i ∷ is) lawful =
      let one : text_cost i ≤ 1000000 = price_small pricing (name_of_input old (text i)) (name_of_input new (text i)) lawful in
      omega (arith, one, cost_small is lawful, sum_by-cons text_cost i is)

  pub cost_fits : (inputs : List X) → IsPricing pricing → length inputs ≤ 1000000 → sum (map text_cost inputs) < 2 ^ 64
  cost_fits inputs lawful few = omega (arith, sum-map text_cost inputs, cost_small inputs lawful, few)
