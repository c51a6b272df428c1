-- Keys that are near, from a place on.
use Rattle.std.proofs.Common.{◌≡◌, ◌+◌, ◌∷◌, ◌∙◌, ℕ, suc, Bool, true, false, List, Some, add-one, ap, drop, drop-cons, if◌then◌else◌}
use Rattle.std.proofs.lemmas.Option.{get_or_from_slice_get, slice_get_within}
use Rattle.std.specs.List.{slice_get}
use Rattle.flag_defs.specs.Definition.{Definition}
use Rattle.flag_defs.specs.Document.{Definitions}
use Rattle.near_names.specs.Near.{is_near}
use Rattle.ofrep_answers.specs.Near.{first_near}

-- the flag at a place is the first of those that are left from there on
left_at : {X : Type 0} (xs : List X) (i : ℕ) (x : X) → slice_get xs i ≡ Some x → drop i xs ≡ x ∷ drop (i + 1) xs
left_at xs i x at = rw (add-one, drop-cons xs i x (slice_get_within xs i x at)) (ap (λ y. y ∷ drop (suc i) xs) (get_or_from_slice_get xs i x x at))

module _ (key : List ℕ) (flags : Definitions) (i : ℕ) (f : List ℕ × Definition) (at : slice_get flags i ≡ Some f) where
  from_here : (b : Bool) → is_near key f.0 ≡ b → first_near key (drop i flags) ≡ (if b then Some f.0 else first_near key (drop (i + 1) flags))
  from_here b is = ap (first_near key) (left_at flags i f at) ∙ ap (λ c. if c then Some f.0 else first_near key (drop (i + 1) flags)) is

  pub near_here : is_near key f.0 ≡ true → first_near key (drop i flags) ≡ Some f.0
  near_here is = from_here true is

  pub not_here : is_near key f.0 ≡ false → first_near key (drop i flags) ≡ first_near key (drop (i + 1) flags)
  not_here is = from_here false is
