-- A step of a loop that adds what one element gives.
use Rattle.std.proofs.Common.{◌≡◌, ℕ, ◌+◌, ◌<◌, Vec, List, [], ◌∷◌, ◌++◌, length, map, take, get_or, slice_get, Some, sym, ap, ◌∙◌, append-nil}
use Rattle.std.specs.List.{flat_map}
use Rattle.std.specs.declared.alloc.Global.{Global}
use Rattle.library_seat.specs.LinesView.{lines_view}
use Rattle.std.proofs.lemmas.Grind.{flat_map-append}
use Rattle.std.proofs.lemmas.List.{map-append, take_more}
use Rattle.std.proofs.lemmas.Option.{get_or_from_slice_get, slice_get_within}

module _ {X A : Type 0} (f : X → List A) (xs : List X) (i : ℕ) (x : X) where
  from_parts : take (i + 1) xs ≡ take i xs ++ x ∷ [] → flat_map f (take (i + 1) xs) ≡ flat_map f (take i xs) ++ f x
  from_parts parts = ap (flat_map f) parts ∙ flat_map-append f (take i xs) (x ∷ []) ∙ ap (λ (t : List A). flat_map f (take i xs) ++ t) (append-nil (f x))

  -- the element at a place
  pub one_more : slice_get xs i ≡ Some x → flat_map f (take (i + 1) xs) ≡ flat_map f (take i xs) ++ f x
  one_more is = from_parts (take_more xs i x (slice_get_within xs i x is) ∙ ap (λ (y : X). take i xs ++ y ∷ []) (get_or_from_slice_get xs i x x is))

-- the same of elements that are seen
module _ {X Y A : Type 0} (v : X → Y) (f : Y → List A) (xs : List X) (i : ℕ) (x : X) (low : i < length xs) (is : x ≡ get_or xs i x) where
  seen : map v (take (i + 1) xs) ≡ map v (take i xs) ++ v x ∷ []
  seen = ap (map v) (take_more xs i x low ∙ ap (λ (y : X). take i xs ++ y ∷ []) (sym is)) ∙ map-append v (take i xs) (x ∷ [])

  pub one_more_seen : flat_map f (map v (take (i + 1) xs)) ≡ flat_map f (map v (take i xs)) ++ f (v x)
  one_more_seen = ap (flat_map f) seen ∙ flat_map-append f (map v (take i xs)) (v x ∷ []) ∙ ap (λ (t : List A). flat_map f (map v (take i xs)) ++ t) (append-nil (f (v x)))

-- a line more
pub line_pushed : (vs : List (Vec ℕ Global)) (v : Vec ℕ Global) → lines_view (vs ++ v ∷ []) ≡ lines_view vs ++ v.items ∷ []
line_pushed vs v = map-append (λ (line : Vec ℕ Global). line.items) vs (v ∷ [])
