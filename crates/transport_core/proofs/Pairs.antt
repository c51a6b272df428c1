-- The first pair of two lists that passes a test, row by row.
use Rattle.std.proofs.Common.{◌≡◌, List, [], ◌∷◌, ◌++◌, map, Bool, true, false, Some, None, option_map, find, refl, sym, ap, ◌∙◌}
use Rattle.std.proofs.lemmas.Bool.{cases_Bool, cond-true, cond-false}
use Rattle.std.proofs.Common.{⊎_elim}

module _ {X Y : Type 0} (test : X × Y → Bool) (x : X) (rest : List (X × Y)) where
  pub row_passes : (ys : List Y) (y : Y) → find (λ z. test (x, z)) ys ≡ Some y → find test (map (λ z. (x, z)) ys ++ rest) ≡ Some (x, y)
  row_passes [] y found = cc
  row_passes (z ∷ ys) y found =
      ⊎_elim
      (λ (ties : test (x, z) ≡ true).
      let same : Some z ≡ Some y = sym (cond-true (test (x, z)) (Some z) (find (λ w. test (x, w)) ys) ties) ∙ found in
      cond-true (test (x, z)) (Some (x, z)) (find test (map (λ w. (x, w)) ys ++ rest)) ties ∙ ap (option_map (λ w. (x, w))) same)
      (λ (apart : test (x, z) ≡ false).
      cond-false (test (x, z)) (Some (x, z)) (find test (map (λ w. (x, w)) ys ++ rest)) apart ∙ row_passes ys y (sym (cond-false (test (x, z)) (Some z) (find (λ w. test (x, w)) ys) apart) ∙ found))
      (cases_Bool (test (x, z)))

  pub row_fails : (ys : List Y) → find (λ z. test (x, z)) ys ≡ None → find test (map (λ z. (x, z)) ys ++ rest) ≡ find test rest
  row_fails [] none = refl
  row_fails (z ∷ ys) none =
      ⊎_elim
      (λ (ties : test (x, z) ≡ true).
      let clash : Some z ≡ None = sym (cond-true (test (x, z)) (Some z) (find (λ w. test (x, w)) ys) ties) ∙ none in
      cc)
      (λ (apart : test (x, z) ≡ false).
      cond-false (test (x, z)) (Some (x, z)) (find test (map (λ w. (x, w)) ys ++ rest)) apart ∙ row_fails ys (sym (cond-false (test (x, z)) (Some z) (find (λ w. test (x, w)) ys) apart) ∙ none))
      (cases_Bool (test (x, z)))

  -- where none of the whole passes, none of the row does, and none of the rest
  pub row_none : (ys : List Y) → find test (map (λ z. (x, z)) ys ++ rest) ≡ None → (find (λ z. test (x, z)) ys ≡ None) × (find test rest ≡ None)
  row_none [] none = (refl, none)
  row_none (z ∷ ys) none =
      ⊎_elim
      (λ (ties : test (x, z) ≡ true).
      let clash : Some (x, z) ≡ None = sym (cond-true (test (x, z)) (Some (x, z)) (find test (map (λ w. (x, w)) ys ++ rest)) ties) ∙ none in
      cc)
      (λ (apart : test (x, z) ≡ false).
      let later = row_none ys (sym (cond-false (test (x, z)) (Some (x, z)) (find test (map (λ w. (x, w)) ys ++ rest)) apart) ∙ none) in
      (cond-false (test (x, z)) (Some z) (find (λ w. test (x, w)) ys) apart ∙ later.0, later.1))
      (cases_Bool (test (x, z)))
