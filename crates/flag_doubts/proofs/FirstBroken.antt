-- Flags that are broken later, from a place on.
use Rattle.std.proofs.Common.{◌≡◌, ◌+◌, ◌∷◌, ◌∙◌, ℕ, suc, Bool, true, false, List, Some, add-one, ap, drop, drop-cons, if◌then◌else◌}
use Rattle.std.proofs.lemmas.Option.{get_or_from_slice_get, slice_get_within}
use Rattle.std.specs.List.{slice_get}
use Rattle.flag_defs.specs.Definition.{Definition}
use Rattle.flag_defs.specs.Document.{Definitions}
use Rattle.flag_doubts.specs.Regression.{breaks, first_broken}

-- the flag at a place is the first of those that are left from there on
left_at : {X : Type 0} (xs : List X) (i : ℕ) (x : X) → slice_get xs i ≡ Some x → drop i xs ≡ x ∷ drop (i + 1) xs
left_at xs i x at = rw (add-one, drop-cons xs i x (slice_get_within xs i x at)) (ap (λ y. y ∷ drop (suc i) xs) (get_or_from_slice_get xs i x x at))

module _ (later current : Definitions) (i : ℕ) (f : List ℕ × Definition) (at : slice_get current i ≡ Some f) where
  from_here : (b : Bool) → breaks later f ≡ b → first_broken later (drop i current) ≡ (if b then Some f.0 else first_broken later (drop (i + 1) current))
  from_here b is = ap (first_broken later) (left_at current i f at) ∙ ap (λ c. if c then Some f.0 else first_broken later (drop (i + 1) current)) is

  pub broken_here : breaks later f ≡ true → first_broken later (drop i current) ≡ Some f.0
  broken_here is = from_here true is

  pub good_here : breaks later f ≡ false → first_broken later (drop i current) ≡ first_broken later (drop (i + 1) current)
  good_here is = from_here false is
