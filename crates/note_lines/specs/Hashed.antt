-- A note without its input, as `book_core` has it, and the line of a note of either kind.
use Rattle.std.specs.Prelude.{ℕ, List}
pub use Rattle.book_core.specs.Hashed.{Hashed, IsHashed, hashed_shape, hash_of, hashed, has_hash}
unfoldable pub use Rattle.book_core.specs.Hashed.{hashed_line}
use Rattle.note_lines.specs.Note.{Noted, note_line}
use Rattle.note_lines.specs.declared.form.NoteForm.{NoteForm}
use Rattle.note_lines.specs.declared.form.NoteForm.TheVariants.{Input, Hash}

-- the line of a note, with the input or with its hash
abbrev pub line_as : NoteForm → Noted → List ℕ
line_as Input note = note_line note
line_as Hash note = hashed_line (hashed note)
