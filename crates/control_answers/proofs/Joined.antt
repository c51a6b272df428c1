-- What the items of a list give, joined, one item after another.
use Rattle.std.proofs.Common.{◌≡◌, ◌+◌, ◌++◌, ◌∙◌, ℕ, List, [], ◌∷◌, Some, ap, append-nil, slice_get, take}
use Rattle.std.specs.List.{flat_map}
use Rattle.std.proofs.lemmas.Grind.{flat_map-append}
use Rattle.std.proofs.lemmas.List.{take_more}
use Rattle.std.proofs.lemmas.Option.{get_or_from_slice_get, slice_get_within}

-- what the next one gives stands behind what those before it gave
module _ {X A : Type 0} (f : X → List A) (xs : List X) (i : ℕ) (x : X) where
  from_parts : take (i + 1) xs ≡ take i xs ++ x ∷ [] → flat_map f (take (i + 1) xs) ≡ flat_map f (take i xs) ++ f x
  from_parts parts = ap (flat_map f) parts ∙ flat_map-append f (take i xs) (x ∷ []) ∙ ap (λ (t : List A). flat_map f (take i xs) ++ t) (append-nil (f x))

  pub one_more : slice_get xs i ≡ Some x → flat_map f (take (i + 1) xs) ≡ flat_map f (take i xs) ++ f x
  one_more is = from_parts (take_more xs i x (slice_get_within xs i x is) ∙ ap (λ (y : X). take i xs ++ y ∷ []) (get_or_from_slice_get xs i x x is))
