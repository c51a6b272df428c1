-- The file of a tally (JSON Lines, https://jsonlines.org).
use Rattle.std.specs.Prelude.{ℕ, ◌+◌, pos, ℤ, List, [], ◌∷◌, ◌++◌, codes, nat_lt, if◌then◌else◌, Option, Some, None}
use Rattle.flag_text.specs.Shape.{Shape, null, whole, text, object, no_members, member}
use Rattle.book_core.specs.Page.{PageName}
use Rattle.book_core.specs.Printing.{by_shape, line_text}
use Rattle.note_tallies.specs.Point.{point_line}
use Rattle.note_tallies.specs.Tally.{PageTally}

-- {"tally":1}
abbrev pub header_shape : Shape
header_shape = object (member (codes "tally") (whole (pos 1)) no_members)

-- what the second line says: the page, the number of points, the first and the last line, the number of inputs
pub record Head : Type 0 where
  pub page : PageName
  pub total : ℕ
  pub first : Option (List ℕ)
  pub last : Option (List ℕ)
  pub inputs : ℕ

-- what it says of a tally
abbrev pub head_of : PageTally → Head
head_of t = record { page = t.page; total = t.total; first = t.first; last = t.last; inputs = t.inputs }

-- a line without its last byte
abbrev pub without_feed : List ℕ → List ℕ
without_feed [] = []
without_feed (b ∷ []) = []
without_feed (b ∷ c ∷ bs) = b ∷ without_feed (c ∷ bs)

-- the text of a line, null where there is none
abbrev pub end_shape : Option (List ℕ) → Shape
end_shape None = null
end_shape (Some line) = text (without_feed line)

-- {"by":..,"first":..,"flag":..,"inputs":..,"last":..,"site":..,"total":..}
abbrev pub object_of : PageName → Shape → ℤ → Shape → ℤ → Shape
object_of page first inputs last total =
    object (member (codes "by") (by_shape page.by) (member (codes "first") first (member (codes "flag") (text page.flag) (member (codes "inputs") (whole inputs)
    (member (codes "last") last (member (codes "site") (whole (pos page.site)) (member (codes "total") (whole total) no_members)))))))

abbrev pub head_shape : Head → Shape
head_shape h = object_of h.page (end_shape h.first) (pos h.inputs) (end_shape h.last) (pos h.total)

-- the line of a point that has inputs
abbrev pub point_text : ℕ → ℕ → List ℕ
point_text p n = if nat_lt 0 n then point_line (record { point = p; inputs = n }) else []

-- those of counts from point p on
abbrev pub points_text : ℕ → List ℕ → List ℕ
points_text p [] = []
points_text p (n ∷ counts) = point_text p n ++ points_text (p + 1) counts

-- the header, the second line, and the lines of the points from 0 on
unfoldable pub file_text : Head → List ℕ → List ℕ
file_text h counts = line_text header_shape ++ (line_text (head_shape h) ++ points_text 0 counts)

-- the file of a tally
abbrev pub tally_text : PageTally → List ℕ
tally_text t = file_text (head_of t) t.counts
