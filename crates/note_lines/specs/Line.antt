-- What becomes of one line, in private contracts alone.
use Rattle.std.specs.Prelude.{◌≡◌, ◌⊎◌, ℕ, List, Bool, true, false, Result, Ok, Err, IsOk}
use Rattle.book_core.specs.Book.{Contents, reply_to, with_input}
use Rattle.book_core.specs.declared.fault.BookFault.TheVariants as book
use Rattle.note_lines.specs.Note.{Noted}
use Rattle.note_lines.specs.Blank.{is_blank}
use Rattle.note_lines.specs.Lines.{IsLineOf, IsStray}
use Rattle.note_lines.specs.declared.fault.NotesFault.{NotesFault}
use Rattle.note_lines.specs.declared.fault.NotesFault.TheVariants.{WantOfMemory, Line, PageFull}

-- the book takes the note
abbrev pub Adds : Contents → Noted → Contents → Type 0
Adds old note new = IsOk (reply_to old note.page note.input) × (new ≡ with_input old note.page note.input)

-- a line that is passed over, one that is blank or that of a note which is added, or why it is refused
abbrev pub TakesLine : Bool → List ℕ → ℕ → Contents → Contents → Result Bool NotesFault → Type 0
TakesLine passing line n old new (Ok true) = IsStray line × (passing ≡ true) × (new ≡ old)
TakesLine passing line n old new (Ok false) = ((is_blank line ≡ true) × (new ≡ old)) ⊎ ((note : Noted) × IsLineOf line note × Adds old note new)
TakesLine passing line n old new (Err WantOfMemory) = Unit {0}
TakesLine passing line n old new (Err (Line k)) = (k ≡ n) × IsStray line × (passing ≡ false)
TakesLine passing line n old new (Err PageFull) = (note : Noted) × IsLineOf line note × (reply_to old note.page note.input ≡ Err book.PageFull)
