-- What the book that `book` writes has, without the order of its files: just what one of them notes.
use Rattle.std.specs.Prelude.{◌≡◌, ◌⊎◌, ◌↔◌, ℕ, Bool, true, false, List, [], ◌∷◌, Result, Ok, Err}
use Rattle.book_core.specs.Book.{Contents, inputs_on, is_among}
use Rattle.book_core.specs.Page.{PageName}
use Rattle.book_core.specs.Reading.{book_of}
use Rattle.book_core.specs.declared.fault.BookFileFault.{BookFileFault}
use Rattle.flagops_books.specs.Union.{IsUnited, noted}
use Rattle.flagops_shell.specs.Files.{Holding, load_of}
use Rattle.flagops_shell.specs.Outcomes.{◌>>=◌, refused_by}
use Rattle.flagops_files.specs.Question.{if_readable, max_book}
use Rattle.flagops_files.specs.declared.refusal.Refusal.{Refusal}
use Rattle.flagops_files.specs.declared.refusal.Refusal.TheVariants.{Load}
use Rattle.byte_streams.specs.Lines.{parts_of}
use Rattle.note_lines.specs.Blank.{begins_book}
use Rattle.note_lines.specs.BookLaw.{HasNote}
use Rattle.note_lines.specs.Notes.{Notes, IsBookOf, no_notes, notes_in}

-- a book notes the inputs that it has
abbrev pub BookNotes : Result Contents BookFileFault → PageName → List ℕ → Type 0
BookNotes (Err e) page input = ⊥
BookNotes (Ok book) page input = notes_in book page input ≡ true

-- note lines note what has its line among them
abbrev pub BytesNote : Bool → List ℕ → PageName → List ℕ → Type 0
BytesNote true bytes page input = BookNotes (book_of bytes) page input
BytesNote false bytes page input = HasNote (parts_of bytes) page input

-- all bytes of the file at a path
unfoldable pub file_bytes_at : Holding → List ℕ → Result (List ℕ) Refusal
file_bytes_at at path = do
  bytes ← refused_by Load (load_of at path max_book)
  if_readable bytes

-- what was loaded of a file is a book or note lines, by how it begins
abbrev pub FileNotes : Result (List ℕ) Refusal → PageName → List ℕ → Type 0
FileNotes (Err e) page input = ⊥
FileNotes (Ok bytes) page input = BytesNote (begins_book bytes) bytes page input

-- one of the files at these paths notes the input on the page
abbrev pub OneNotes : Holding → List (List ℕ) → PageName → List ℕ → Type 0
OneNotes at [] page input = ⊥
OneNotes at (path ∷ paths) page input = FileNotes (file_bytes_at at path) page input ⊎ OneNotes at paths page input

-- where no file is refused, the book of what they come to has an input on a page exactly where one of them notes it there
abbrev pub UnitesFiles : Type 0
UnitesFiles = (at : Holding) (passing : Bool) (paths : List (List ℕ)) (all : Notes) (told : List ℕ) (book : Contents) → IsUnited at passing paths no_notes [] (Ok (noted all told)) → IsBookOf all book
    → (page : PageName) (input : List ℕ) → (is_among input (inputs_on book page) ≡ true) ↔ OneNotes at paths page input
