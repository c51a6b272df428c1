-- Notes, and the book of them: which inputs reached which `fractional` operation (https://flagd.dev/reference/custom-operations/fractional-operation/).
use Rattle.std.specs.Prelude.{◌≡◌, ℕ, List, Bool, false, ◌&&◌, ◌||◌}
use Rattle.std.specs.Str.{bytes_eq}
use Rattle.book_core.specs.Book.{Contents, IsBook, inputs_on, is_among}
use Rattle.book_core.specs.Page.{PageName, page_eq}
use Rattle.note_lines.specs.Note.{Noted}

-- whether an input is noted on a page
abbrev pub Notes : Type 0
Notes = PageName → List ℕ → Bool

-- nothing is noted
abbrev pub no_notes : Notes
no_notes page input = false

-- what is noted in a book
abbrev pub notes_in : Contents → Notes
notes_in book page input = is_among input (inputs_on book page)

-- one note
abbrev pub one_note : Noted → Notes
one_note note page input = page_eq page note.page && bytes_eq input note.input

-- what is noted in one or in the other
abbrev pub both : Notes → Notes → Notes
both one other page input = one page input || other page input

-- the book of these notes has them, and nothing else
pub record IsBookOf (notes : Notes) (book : Contents) : Type 0 where
  pub lawful : IsBook book
  pub held : (page : PageName) (input : List ℕ) → is_among input (inputs_on book page) ≡ notes page input

-- no book is that of these notes: a page would have more inputs than a page takes
abbrev pub HaveNoBook : Notes → Type 0
HaveNoBook notes = (book : Contents) → IsBookOf notes book → ⊥
