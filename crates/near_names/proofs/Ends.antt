-- Names of which one begins the other.
use Rattle.std.proofs.Common.{◌≡◌, ◌-◌, ◌≤◌, ◌∷◌, [], ℕ, List, drop, length, nat_le, refl, ap, sym, ◌∙◌}
use Rattle.std.proofs.lemmas.List.{drop_all, length-drop}
use Rattle.near_names.specs.Near.{is_slip}

-- a name that is over
over : (xs : List ℕ) → is_slip xs [] ≡ nat_le (length xs) 1
over [] = refl
over (x ∷ xs) = refl

-- where the second name is over, what is left of the first decides
pub ended : (xs ys : List ℕ) (n i : ℕ) → is_slip (drop i xs) (drop i ys) ≡ is_slip xs ys → i ≡ n → length ys ≤ n → nat_le (length xs - n) 1 ≡ is_slip xs ys
ended xs ys n i left is short =
    ap (λ k. nat_le k 1) (sym (length-drop n xs)) ∙ sym (over (drop n xs)) ∙ ap (λ (zs : List ℕ). is_slip (drop n xs) zs) (sym (drop_all n ys short))
    ∙ ap (λ k. is_slip (drop k xs) (drop k ys)) (sym is) ∙ left
