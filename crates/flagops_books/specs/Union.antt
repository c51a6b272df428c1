-- What several files note, each read before the next: books, and files of note lines.
use Rattle.flagops_files.specs.declared.refusal.Refusal.{Refusal}
use Rattle.std.specs.Prelude.{◌≡◌, ◌⊎◌, ◌||◌, ℕ, nat_lt, Bool, true, false, not, List, [], ◌∷◌, ◌++◌, length, Result, Ok, Err}
use Rattle.book_core.specs.Book.{Contents}
use Rattle.book_core.specs.Reading.{book_of}
use Rattle.book_core.specs.declared.fault.BookFault.{BookFault}
use Rattle.book_core.specs.declared.fault.BookFault.TheVariants as noting
use Rattle.book_core.specs.declared.fault.BookFileFault.{BookFileFault}
use Rattle.flagops_books.specs.Told.{passed_text}
use Rattle.flagops_shell.specs.Beginning.{ends_line}
use Rattle.flagops_shell.specs.Files.{Holding}
use Rattle.flagops_files.specs.Question.{notes_bytes_at}
use Rattle.flagops_books.specs.Refusal.{read_refusal}
use Rattle.flagops_books.specs.declared.refusal.BookRefusal.{BookRefusal}
use Rattle.flagops_books.specs.declared.refusal.BookRefusal.TheVariants as refusal
use Rattle.byte_streams.specs.Lines.{parts_of}
use Rattle.note_lines.specs.Blank.{begins_book}
use Rattle.note_lines.specs.Lines.{Taken, Takes}
use Rattle.note_lines.specs.Notes.{Notes, IsBookOf, HaveNoBook, both, notes_in}
use Rattle.note_lines.specs.declared.fault.NotesFault.{NotesFault}
use Rattle.note_lines.specs.declared.fault.NotesFault.TheVariants as lines

-- what files come to: what they note, and what a person is told of the lines that were passed over in each; or the path of the
-- first file with a line that is refused, and the line's number
pub data United : Type 0 where
  noted : Notes → List ℕ → United
  stray : List ℕ → ℕ → United

-- what comes of such notes
abbrev pub Later : Type 1
Later = Notes → List ℕ → Result United BookRefusal → Type 0

-- behind the last file
abbrev pub IsLast : Later
IsLast all told r = r ≡ Ok (noted all told)

-- behind what is noted before, the notes of a book, where there is a book of all
abbrev pub IsWithBook : Later → Notes → List ℕ → Result Contents BookFileFault → Result United BookRefusal → Type 0
IsWithBook Next all told (Err e) r = r ≡ Err (read_refusal e)
IsWithBook Next all told (Ok other) r =
    (HaveNoBook (both all (notes_in other)) × (r ≡ Err refusal.FullBook))
    ⊎ ((book : Contents) × IsBookOf (both all (notes_in other)) book × Next (both all (notes_in other)) told r)

-- those of the lines of a file, with what is told of those that were passed over
abbrev pub IsWithLines : Later → List ℕ → List ℕ → Result Taken NotesFault → Result United BookRefusal → Type 0
IsWithLines Next told path (Ok t) r = Next t.notes (told ++ passed_text path t.passed t.torn) r
IsWithLines Next told path (Err (lines.Line n)) r = r ≡ Ok (stray path n)
IsWithLines Next told path (Err lines.PageFull) r = r ≡ Err refusal.FullBook
IsWithLines Next told path (Err lines.WantOfMemory) r = ⊥

-- as many bytes as no note line of a document has, without a line's end
abbrev pub is_one_line : List ℕ → Bool
is_one_line bytes = not (nat_lt (length bytes) 16777216 || ends_line bytes)

-- what is taken of bytes, which are the line of no note where they are one line
abbrev pub TakesBytes : Bool → Bool → Notes → List ℕ → Result Taken NotesFault → Type 0
TakesBytes true passing all bytes t = t ≡ Err (lines.Line 1)
TakesBytes false passing all bytes t = Takes passing all 1 0 (parts_of bytes) t

-- those of bytes, which are read as a book or as note lines
abbrev pub IsWithBytes : Bool → Later → Bool → Notes → List ℕ → List ℕ → List ℕ → Result United BookRefusal → Type 0
IsWithBytes true Next passing all told path bytes r = IsWithBook Next all told (book_of bytes) r
IsWithBytes false Next passing all told path bytes r = (t : Result Taken NotesFault) × TakesBytes (is_one_line bytes) passing all bytes t × IsWithLines Next told path t r

-- those of a file whose bytes were loaded
abbrev pub IsWithFile : Later → Bool → Notes → List ℕ → List ℕ → Result (List ℕ) Refusal → Result United BookRefusal → Type 0
IsWithFile Next passing all told path (Err e) r = r ≡ Err (refusal.Load e)
IsWithFile Next passing all told path (Ok bytes) r = IsWithBytes (begins_book bytes) Next passing all told path bytes r

-- those of the files at these paths, or the first that is refused
unfoldable pub IsUnited : Holding → Bool → List (List ℕ) → Later
IsUnited at passing [] all told r = r ≡ Ok (noted all told)
IsUnited at passing (path ∷ paths) all told r = IsWithFile (IsUnited at passing paths) passing all told path (notes_bytes_at at passing path) r

-- why a union is refused, as the refusal of the command
abbrev pub union_refusal : BookFault → BookRefusal
union_refusal noting.WantOfMemory = refusal.WantOfMemory
union_refusal e = refusal.FullBook
