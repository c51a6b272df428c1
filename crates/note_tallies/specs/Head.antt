-- What the lines of a page's notes begin with.
use Rattle.std.specs.Prelude.{◌≡◌, ℕ, List, [], ◌∷◌, ◌++◌}
use Rattle.flag_text.specs.Printing.{text_of}
use Rattle.flag_text.specs.Shape.{text}
use Rattle.book_core.specs.Page.{PageName}
use Rattle.note_lines.specs.Note.{IsNote, note_line}

pub record IsHead (page : PageName) (head : List ℕ) : Type 0 where
  -- behind it a line has the text of the input, a bracket and a line feed
  pub lines : (input : List ℕ) → note_line (record { page = page; input = input }) ≡ head ++ (text_of (text input) ++ 93 ∷ 10 ∷ [])
  -- the page is one that notes have
  pub notes : IsNote (record { page = page; input = [] })
