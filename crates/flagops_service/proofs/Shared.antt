-- What is remembered is shared.
use Rattle.std.proofs.Common.{◌≡◌, ◌<◌, ◌∙◌, ℕ, zero, suc, Option, Some, None, MatchOption, arith, option_map, refl, subst, sym}
use Rattle.flagops_service.specs.Words.{some_of}

positive : (n : ℕ) → 0 < n → Some n ≡ some_of n
positive zero h = absurd (omega (arith, h))
positive (suc n) h = refl

-- a number that is none where it is 0
pub shared : {X : Type 0} (get : X → ℕ) (n m : ℕ) (r : Option X) → ((x : X) → 0 < get x) → n ≡ m → MatchOption r (n ≡ 0) (λ x. get x ≡ n) → option_map get r ≡ some_of m
shared get n m None some same is = subst (λ (k : ℕ). None ≡ some_of k) (sym is ∙ same) refl
shared get n m (Some x) some same is = subst (λ (k : ℕ). Some (get x) ≡ some_of k) (is ∙ same) (positive (get x) (some x))
