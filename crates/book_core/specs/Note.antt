-- A note: one hash input that reached one `fractional` operation, as a line of its own (JSON Lines, https://jsonlines.org).
use Rattle.std.specs.Prelude.{ℕ, ◌<◌, ◌≤◌, ◌^◌, pos, List, length, IfSome}
use Rattle.std.specs.Str.{IsUtf8}
use Rattle.limits.specs.Limits.{input_bytes}
use Rattle.flag_text.specs.Shape.{Shape, whole, text, list, no_items, item}
use Rattle.book_core.specs.Page.{PageName}
use Rattle.book_core.specs.Printing.{by_shape, line_text}

-- the page of the operation, and the input
pub record Noted : Type 0 where
  pub page : PageName
  pub input : List ℕ

-- the most bytes that the input of a note has
abbrev pub most_noted : ℕ
most_noted = input_bytes

-- [FLAG,SITE,BY,LAST]
abbrev pub parts_shape : PageName → Shape → Shape
parts_shape page last = list (item (text page.flag) (item (whole (pos page.site)) (item (by_shape page.by) (item last no_items))))

-- [FLAG,SITE,BY,INPUT]
abbrev pub note_shape : Noted → Shape
note_shape note = parts_shape note.page (text note.input)

-- the compact text of that list, and a line feed
unfoldable pub note_line : Noted → List ℕ
note_line note = line_text (note_shape note)

-- its texts are texts, its site is a site, and its input is not too long
pub record IsNote (note : Noted) : Type 0 where
  pub flag : IsUtf8 note.page.flag
  pub site : note.page.site < 2 ^ 32
  pub by : IfSome note.page.by IsUtf8
  pub input : IsUtf8 note.input
  pub short : length note.input ≤ most_noted
