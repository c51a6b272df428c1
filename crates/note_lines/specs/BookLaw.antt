-- What is noted in a file, without its order: just the notes whose lines stand in it, beside those before.
use Rattle.std.specs.Prelude.{◌≡◌, ◌⊎◌, ◌↔◌, ℕ, List, [], ◌∷◌, ◌++◌, Bool, true, false, Ok}
use Rattle.book_core.specs.Book.{Contents}
use Rattle.book_core.specs.Page.{PageName}
use Rattle.book_core.specs.Printing.{book_text}
use Rattle.note_lines.specs.Note.{Noted, note_line}
use Rattle.note_lines.specs.Blank.{begins_book}
use Rattle.note_lines.specs.Lines.{IsLineOf, Taken, Takes, ended}
use Rattle.note_lines.specs.Notes.{Notes, one_note}

-- one of the lines of a file, of whose parts the last is none, is that of a note of this input on this page
abbrev pub HasNote : List (List ℕ) → PageName → List ℕ → Type 0
HasNote [] page input = ⊥
HasNote (rest ∷ []) page input = ⊥
HasNote (line ∷ next ∷ parts) page input = ((note : Noted) × IsLineOf (ended line) note × (one_note note page input ≡ true)) ⊎ HasNote (next ∷ parts) page input

-- what is taken of a file that is not refused is what was noted before, and what has its line there
abbrev pub NotesItsLines : Type 0
NotesItsLines = (passing : Bool) (all : Notes) (n passed : ℕ) (parts : List (List ℕ)) (t : Taken) → Takes passing all n passed parts (Ok t)
    → (page : PageName) (input : List ℕ) → (t.notes page input ≡ true) ↔ ((all page input ≡ true) ⊎ HasNote parts page input)

-- the file of a book begins as one
abbrev pub BooksBegin : Type 0
BooksBegin = (book : Contents) → begins_book (book_text book) ≡ true

-- and one that begins with a note line does not
abbrev pub LinesBegin : Type 0
LinesBegin = (note : Noted) (more : List ℕ) → begins_book (note_line note ++ more) ≡ false
