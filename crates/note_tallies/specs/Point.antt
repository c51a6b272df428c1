-- A point of a tally and how many inputs fall on it, as a line of its own (JSON Lines, https://jsonlines.org).
use Rattle.std.specs.Prelude.{ℕ, ◌<◌, ◌^◌, ◌==◌, pos, Bool, ◌&&◌, ◌||◌, nat_le, List, [], ◌∷◌, ◌++◌, length, slice_index}
use Rattle.flag_text.specs.Printing.{text_of}
use Rattle.flag_text.specs.Shape.{Shape, whole, list, no_items, item}
use Rattle.note_tallies.specs.declared.point.PointCount.{PointCount}

-- [POINT,INPUTS]
abbrev pub point_shape : PointCount → Shape
point_shape e = list (item (whole (pos e.point)) (item (whole (pos e.inputs)) no_items))

-- the compact text of that list, and a line feed
unfoldable pub point_line : PointCount → List ℕ
point_line e = text_of (point_shape e) ++ 10 ∷ []

-- both are numbers of 32 bits
pub record IsPointCount (e : PointCount) : Type 0 where
  pub point : e.point < 2 ^ 32
  pub inputs : e.inputs < 2 ^ 32

-- ---- for private clauses

-- one digit, or a first one above zero
abbrev pub is_shortest : List ℕ → Bool
is_shortest ds = (length ds == 1) || (nat_le 49 (slice_index ds 0) && nat_le (slice_index ds 0) 57)
