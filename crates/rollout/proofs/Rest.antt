-- What is looked up in the rest of a list.
use Rattle.std.proofs.Common.{◌≡◌, ℕ, zero, suc, ◌+◌, Bool, true, false, cond, List, [], ◌∷◌, drop, Some, refl, sym, ap, ◌∙◌, add-one}
use Rattle.std.specs.List.{slice_get}
use Rattle.std.specs.Map.{lookup}

module _ {V : Type 0} (test : List ℕ → Bool) where
  at_rest : (xs : List (List ℕ × V)) (i : ℕ) (x : List ℕ × V) → slice_get xs i ≡ Some x → lookup test (drop i xs) ≡ cond (test x.0) (Some x.1) (lookup test (drop (suc i) xs))
  at_rest [] i x h = cc
  at_rest (y ∷ xs) zero x h = let same : y ≡ x = cc in rw same refl
  at_rest (y ∷ xs) (suc i) x h = at_rest xs i x h

  -- the entry that the rest begins with is found
  pub is_here : (xs : List (List ℕ × V)) (i : ℕ) (x : List ℕ × V) → slice_get xs i ≡ Some x → test x.0 ≡ true → lookup test (drop i xs) ≡ Some x.1
  is_here xs i x h e = at_rest xs i x h ∙ ap (λ (b : Bool). cond b (Some x.1) (lookup test (drop (suc i) xs))) e

  -- it is not, and what follows answers
  pub is_behind : (xs : List (List ℕ × V)) (i : ℕ) (x : List ℕ × V) → slice_get xs i ≡ Some x → test x.0 ≡ false → lookup test (drop (i + 1) xs) ≡ lookup test (drop i xs)
  is_behind xs i x h e = rw add-one (sym (at_rest xs i x h ∙ ap (λ (b : Bool). cond b (Some x.1) (lookup test (drop (suc i) xs))) e))
