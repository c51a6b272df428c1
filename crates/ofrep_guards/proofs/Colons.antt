-- The place of the first element that passes a test is one of the list.
use Rattle.std.proofs.Common.{◌≡◌, ◌≤◌, ◌+◌, ℕ, suc, Bool, true, false, List, [], ◌∷◌, Option, Some, ap, cond, length, arith}
use Rattle.std.specs.Prelude.{unwrap_or}
use Rattle.std.specs.List.{position_from}

module _ (test : ℕ → Bool) where
  step : (i at : ℕ) (xs : List ℕ) (passes : Bool) → (position_from test (i + 1) xs ≡ Some at → at ≤ i + 1 + length xs)
      → cond passes (Some i) (position_from test (i + 1) xs) ≡ Some at → at ≤ i + suc (length xs)
  step i at xs true more h = omega (arith, ap (λ (o : Option ℕ). unwrap_or o 0) h)
  step i at xs false more h = omega (arith, more h)

  pub within : (i at : ℕ) (xs : List ℕ) → position_from test i xs ≡ Some at → at ≤ i + length xs
  within i at [] h = absurd (cc h)
  within i at (x ∷ xs) h = step i at xs (test x) (within (i + 1) at xs) h
