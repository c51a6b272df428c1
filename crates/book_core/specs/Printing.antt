-- The file of a book.
use Rattle.std.specs.Prelude.{◌≡◌, ℕ, ◌<◌, ◌^◌, pos, List, [], ◌∷◌, ◌++◌, length, codes, Option, Some, None, Ok, flat_map}
use Rattle.std.specs.List.{AllByRecursion}
use Rattle.flag_text.specs.Shape.{Shape, null, whole, text, object, no_members, member}
use Rattle.flag_text.specs.Printing.{text_of}
use Rattle.flag_text.specs.Reading.{tree_of}
use Rattle.book_core.specs.Page.{PageName}
use Rattle.book_core.specs.Book.{Inputs, Contents}

-- a compact JSON text and a line feed
abbrev pub line_text : Shape → List ℕ
line_text t = text_of t ++ 10 ∷ []

-- {"book":1}
abbrev pub header_shape : Shape
header_shape = object (member (codes "book") (whole (pos 1)) no_members)

-- a bucketing expression's text, null where there is none
abbrev pub by_shape : Option (List ℕ) → Shape
by_shape None = null
by_shape (Some s) = text s

-- {"by":..,"flag":..,"site":..}
abbrev pub page_shape : PageName → Shape
page_shape page = object (member (codes "by") (by_shape page.by) (member (codes "flag") (text page.flag) (member (codes "site") (whole (pos page.site)) no_members)))

-- a line for each input
abbrev pub inputs_text : Inputs → List ℕ
inputs_text inputs = flat_map (λ input. line_text (text input)) inputs

-- the lines of a page and of its inputs
abbrev pub page_text : PageName × Inputs → List ℕ
page_text e = line_text (page_shape e.0) ++ inputs_text e.1

-- the file of a book
unfoldable pub book_text : Contents → List ℕ
book_text book = line_text header_shape ++ flat_map page_text book

-- the text of a value reads as the value
abbrev pub Reads : Shape → Type 0
Reads t = tree_of (text_of t) (length (text_of t)) ≡ Ok t

-- so do the lines of a page
pub record ReadsPage (e : PageName × Inputs) : Type 0 where
  pub page : Reads (page_shape e.0)
  pub site : e.0.site < 2 ^ 32
  pub inputs : AllByRecursion (λ (input : List ℕ). Reads (text input)) e.1
