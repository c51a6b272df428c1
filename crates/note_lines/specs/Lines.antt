-- What the lines of a file note (JSON Lines, https://jsonlines.org). Each ends with a line feed.
use Rattle.std.specs.Prelude.{◌≡◌, ◌≢◌, ◌⊎◌, ℕ, ◌+◌, List, [], ◌∷◌, ◌++◌, ◌==◌, length, Bool, true, false, not, Result, Ok, Err}
use Rattle.book_core.specs.Book.{Contents}
use Rattle.byte_streams.specs.Lines.{parts_of}
use Rattle.note_lines.specs.Note.{Noted, IsNote, note_line}
use Rattle.note_lines.specs.Blank.{is_blank}
use Rattle.note_lines.specs.Notes.{Notes, IsBookOf, HaveNoBook, both, one_note}
use Rattle.note_lines.specs.declared.fault.NotesFault.{NotesFault}
use Rattle.note_lines.specs.declared.fault.NotesFault.TheVariants.{WantOfMemory, Line, PageFull}
use Rattle.note_lines.specs.declared.taking.NotesTaken.{NotesTaken}

-- the line is that of the note
pub record IsLineOf (line : List ℕ) (note : Noted) : Type 0 where
  pub note_is : IsNote note
  pub same : line ≡ note_line note

-- the line is not blank, and is that of no note
pub record IsStray (line : List ℕ) : Type 0 where
  pub some : is_blank line ≡ false
  pub none : (note : Noted) → IsNote note → line ≢ note_line note

-- what is noted, how many lines that are none were passed over, and whether bytes stand behind the last line
pub record Taken : Type 0 where
  pub notes : Notes
  pub passed : ℕ
  pub torn : Bool

-- there are bytes
abbrev pub is_some_text : List ℕ → Bool
is_some_text bytes = not (length bytes == 0)

-- a part between line feeds, as a line
abbrev pub ended : List ℕ → List ℕ
ended part = part ++ 10 ∷ []

-- Of the parts of a file from line n on, of which the last is no line, behind these notes and so many lines that were passed over:
-- the notes of all; or the first line that is refused, as the line of no note, where it is not passed over, or as no book has its note too.
abbrev pub Takes : Bool → Notes → ℕ → ℕ → List (List ℕ) → Result Taken NotesFault → Type 0
Takes passing all n passed [] r = r ≡ Ok (record { notes = all; passed = passed; torn = false })
Takes passing all n passed (rest ∷ []) r = r ≡ Ok (record { notes = all; passed = passed; torn = is_some_text rest })
Takes passing all n passed (line ∷ next ∷ parts) r =
    ((is_blank (ended line) ≡ true) × Takes passing all (n + 1) passed (next ∷ parts) r)
    ⊎ ((note : Noted) × IsLineOf (ended line) note × (book : Contents) × IsBookOf (both all (one_note note)) book × Takes passing (both all (one_note note)) (n + 1) passed (next ∷ parts) r)
    ⊎ ((note : Noted) × IsLineOf (ended line) note × HaveNoBook (both all (one_note note)) × (r ≡ Err PageFull))
    ⊎ (IsStray (ended line) × (passing ≡ true) × Takes passing all (n + 1) (passed + 1) (next ∷ parts) r)
    ⊎ (IsStray (ended line) × (passing ≡ false) × (r ≡ Err (Line n)))

-- what is taken of the bytes of a file behind these notes, of which there is a book
abbrev pub TakesNotes : Bool → Notes → List ℕ → Result NotesTaken NotesFault → Type 0
TakesNotes passing all bytes (Ok t) =
    (taken : Taken) × Takes passing all 1 0 (parts_of bytes) (Ok taken) × IsBookOf taken.notes t.book × (t.passed ≡ taken.passed) × (t.torn ≡ taken.torn)
TakesNotes passing all bytes (Err WantOfMemory) = Unit {0}
TakesNotes passing all bytes (Err (Line n)) = Takes passing all 1 0 (parts_of bytes) (Err (Line n))
TakesNotes passing all bytes (Err PageFull) = Takes passing all 1 0 (parts_of bytes) (Err PageFull)
