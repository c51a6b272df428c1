-- The lines of notes that are not remembered, in private contracts alone.
use Rattle.std.specs.Prelude.{◌≡◌, ◌≤◌, ◌<◌, ◌⊎◌, ℕ, List, [], ◌∷◌, ◌++◌, length, map, Contains, Vec}
use Rattle.std.specs.List.{flat_map}
use Rattle.std.specs.declared.alloc.Global.{Global}
use Rattle.note_lines.specs.Hashed.{line_as}
use Rattle.note_lines.specs.Note.{Noted, most_noted}
use Rattle.note_lines.specs.declared.form.NoteForm.{NoteForm}
use Rattle.note_log.specs.Files.{StandsIn}
use Rattle.note_log.specs.Log.{Wants}
use Rattle.note_log.specs.Shown.{shown_in}
use Rattle.note_log.specs.declared.batch.Batch.{Batch}

abbrev pub items_of : List (Vec ℕ Global) → List (List ℕ)
items_of lines = map (λ line. line.items) lines

-- the note is too long, or its line came last
abbrev pub Adds : NoteForm → Noted → List (Vec ℕ Global) → List (Vec ℕ Global) → Type 0
Adds form note old new =
    ((most_noted < length note.input) × (new ≡ old))
    ⊎ ((length note.input ≤ most_noted) × (items_of new ≡ items_of old ++ line_as form note ∷ []))

-- the lines of all notes that are to be recorded, and of no other
pub record ArePrinted (form : NoteForm) (notes : List Noted) (printed : List (Vec ℕ Global)) : Type 0 where
  pub recorded : List Noted
  pub wanted : (note : Noted) → Contains recorded note → Wants notes note
  pub lines : items_of printed ≡ map (line_as form) recorded
  pub all : (note : Noted) → Wants notes note → Contains recorded note

-- one of the notes has this line
abbrev pub IsOneOf : NoteForm → List Noted → List ℕ → Type 0
IsOneOf form notes line = (note : Noted) × Contains notes note × (line_as form note ≡ line)

-- the lines of some of the notes, and the line of each note that is to be recorded is one of them, or stands in what an open file was handed
pub record IsBatch (form : NoteForm) (notes : List Noted) (batch : Batch) : Type 0 where
  pub recorded : List Noted
  pub wanted : (note : Noted) → Contains recorded note → Wants notes note
  pub lines : items_of batch.lines.items ≡ map (line_as form) recorded
  pub bytes : batch.bytes.items ≡ flat_map (line_as form) recorded
  pub known : (note : Noted) → Wants notes note → StandsIn (line_as form note) (shown_in batch.shown.items) ⊎ IsOneOf form recorded (line_as form note)
