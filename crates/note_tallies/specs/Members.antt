-- What an object says, in private contracts alone.
use Rattle.std.specs.Prelude.{ℕ, ◌^◌, pos, List, [], ◌∷◌, ◌++◌, codes, nat_lt, if◌then◌else◌, Option, Some, None, option_and_then}
use Rattle.flag_text.specs.Shape.{Shape, null, whole, text}
use Rattle.flag_text.specs.Readers.{member_of}
use Rattle.book_core.specs.Reading.{site_of, page_of}
use Rattle.note_tallies.specs.File.{Head}

infixl 10 ◌>>=◌
abbrev ◌>>=◌ : {A B : Type 0} → Option A → (A → Option B) → Option B
o >>= f = option_and_then f o

-- a whole number from 0 to 2^53-1
abbrev pub number_of_shape : Shape → Option ℕ
number_of_shape (whole (pos n)) = if nat_lt n (2 ^ 53) then Some n else None
number_of_shape t = None

-- the line of a text, none of null
abbrev pub end_of_shape : Shape → Option (Option (List ℕ))
end_of_shape null = Some None
end_of_shape (text s) = Some (Some (s ++ 10 ∷ []))
end_of_shape t = None

abbrev pub head_of_shape : Shape → Option Head
head_of_shape t = do
  page ← page_of t
  total ← option_and_then site_of (member_of (codes "total") t)
  inputs ← option_and_then number_of_shape (member_of (codes "inputs") t)
  first ← option_and_then end_of_shape (member_of (codes "first") t)
  last ← option_and_then end_of_shape (member_of (codes "last") t)
  Some (record { page = page; total = total; first = first; last = last; inputs = inputs })
