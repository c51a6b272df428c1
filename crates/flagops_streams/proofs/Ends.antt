-- The first stream that ended.
use Rattle.std.proofs.Common.{◌≡◌, ◌∙◌, ℕ, List, length, Option, Some, is_some, true, slice_get, slice_index_or, ap, refl}
use Rattle.std.specs.List.{position}
use Rattle.std.proofs.lemmas.List.Quantifiers.{position-Some}
use Rattle.std.proofs.lemmas.Option.{slice_get_read}

module _ {X : Type 0} (xs : List (Option X)) (i : ℕ) (slot : Option X) (first : position is_some xs ≡ Some i) (at : slot ≡ slice_index_or xs i slot) where
  -- its end stands at its place
  pub ended : is_some slot ≡ true
  ended = ap is_some at ∙ (position-Some is_some xs i slot first).1

  pub stands : slice_get xs i ≡ Some slot
  stands = slice_get_read xs (length xs) i slot refl (position-Some is_some xs i slot first).0 at
