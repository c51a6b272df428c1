use Rattle.std.proofs.Common.{◌≡◌, ℕ, List, [], ◌∷◌, Bool, true, false, cond, nat_eq, refl, ap}
use Rattle.std.proofs.lemmas.Bool.{eqb-true}
use Rattle.member_names.specs.Places.{within}
use Rattle.member_names.proofs.places.within.Goals as goal

no_dot : (s : List ℕ) → ((rest : List ℕ) → s ≡ 46 ∷ rest → ⊥) → s ≡ within s
no_dot [] none = refl
no_dot (x ∷ xs) none = go (nat_eq x 46) refl
  where
    go : (b : Bool) → nat_eq x 46 ≡ b → (x ∷ xs) ≡ cond b xs (x ∷ xs)
    go true e = absurd (none xs (ap (λ y. y ∷ xs) (eqb-true x 46 e)))
    go false e = refl

pub returns-in-None : goal.returns-in-None
unfolding lib.Utf8.encode
returns-in-None c = no_dot c.args.place.now c.in-None.ensures.cases
