-- Lists and what is in them.
use Rattle.std.proofs.Common.{◌≡◌, ℕ, List, [], ◌∷◌, length, refl, arith}
use Rattle.std.specs.List.{Contains}
use Rattle.std.proofs.lemmas.List.Elements.{Contains-append_left, Contains-push}

-- nothing is in no list
pub not_in : {X : Type 0} (x : X) → ¬ (Contains [] x)
not_in x c = omega (arith, c.1)

pub at_head : {X : Type 0} (x : X) (xs : List X) → Contains (x ∷ xs) x
at_head x xs = Contains-append_left (x ∷ []) xs x (Contains-push [] x)

pub nothing_left : {X : Type 0} (xs : List X) (n : ℕ) → n ≡ length xs → n ≡ 0 → xs ≡ []
nothing_left [] n same none = refl
nothing_left (x ∷ xs) n same none = absurd (omega (arith, same, none))
