-- A way in a targeting's written form, followed through the document that it was read from.
use Rattle.std.specs.Prelude.{ℕ, zero, suc, List, [], ◌∷◌, ◌++◌, Option, Some, None}
use Rattle.flag_text.specs.Readers.{find_member}
use Rattle.flag_text.specs.Shape.{Shape, list, object, Items, no_items, item}
use Rattle.flag_references.specs.Inlining.{reference_in}
use Rattle.text_spans.specs.Path.{Step, name, index}

-- the way leads to this part of the document on this path, into the evaluator of this name, or to no part
pub data Spot : Type 0 where
  part : List Step → Shape → Spot
  referred : List ℕ → Spot
  lost : Spot

-- where one step leads: to no part, nowhere else, or to a part
pub data Inside : Type 0 where
  nothing : Inside
  itself : Inside
  inner : Shape → Inside

abbrev pub or_nothing : Option Shape → Inside
or_nothing None = nothing
or_nothing (Some t) = inner t

abbrev pub item_at : ℕ → Items → Option Shape
item_at i no_items = None
item_at zero (item t ts) = Some t
item_at (suc i) (item t ts) = item_at i ts

-- the first of one argument that stands without its list
abbrev pub alone : ℕ → Inside
alone zero = itself
alone (suc i) = nothing

-- A name leads to the member, an index to the item; one argument may stand without its list.
abbrev pub led : Step → Shape → Inside
led (name k) (object ms) = or_nothing (find_member k ms)
led (name k) t = nothing
led (index i) (list ts) = or_nothing (item_at i ts)
led (index i) t = alone i

abbrev pub unless_reference : Option (List ℕ) → Spot → Spot
unless_reference (Some evaluator) spot = referred evaluator
unless_reference None spot = spot

abbrev pub going_on : Inside → Spot → (Shape → Spot) → Spot
going_on nothing again next = lost
going_on itself again next = again
going_on (inner t) again next = next t

-- The way followed from a part to which the path `done` leads. A reference on it leads into an evaluator.
abbrev pub followed : List Step → Shape → List Step → Spot
followed done t [] = unless_reference (reference_in t) (part done t)
followed done t (s ∷ way) =
    unless_reference (reference_in t) (going_on (led s t) (followed done t way) (λ u. followed (done ++ s ∷ []) u way))
