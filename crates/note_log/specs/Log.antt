-- A log of notes over a file that may take less than it is given, and that others may take away.
use Rattle.std.specs.Prelude.{◌≡◌, ◌≤◌, ◌⊎◌, ℕ, Bool, true, false, List, [], ◌∷◌, ◌++◌, length, sum_by, Option, Some, None, Contains}
use Rattle.std.specs.List.{flat_map}
use Rattle.std.specs.Io.KnownBytes.{append_known}
use Rattle.log_file.specs.declared.file.LogFile.{Ghosts}
use Rattle.log_file.specs.declared.journal.Look.{Look}
use Rattle.log_file.specs.declared.journal.Look.TheVariants.{Stands, Reopened, Lost}
use Rattle.note_lines.specs.Hashed.{line_as}
use Rattle.note_lines.specs.Note.{Noted, most_noted}
use Rattle.note_lines.specs.declared.form.NoteForm.{NoteForm}
use Rattle.log_file.specs.Line.{lines_in}
use Rattle.note_log.specs.Line.{HasLine}
use Rattle.note_log.specs.Files.{StandsIn}
use Rattle.note_log.specs.Shown.{relied_in}
use Rattle.log_file.specs.Handed.{handed_in}
use Rattle.note_log.specs.Sound.{earlier_in}
use Rattle.note_log.specs.declared.log.NoteLog.{NoteLog}
use Rattle.note_log.specs.declared.trouble.Trouble.{Trouble}
use Rattle.note_log.specs.declared.trouble.Trouble.TheVariants as trouble

-- the form of its lines, what each file that was lost was handed, what the one that is open was handed, what of the lines waits, and what the files that were open in the process were handed as it relied on lines that they have
pub record Logged : Type 0 where
  pub form : NoteForm
  pub earlier : List (List ℕ)
  pub handed : List ℕ
  pub waiting : List ℕ
  pub relied : List (List ℕ)

abbrev pub logged : {F : Type 0} {g : Ghosts F} → NoteLog F g → Logged
logged log = record { form = log.form; earlier = earlier_in log.earlier.items; handed = handed_in log.journal.journal.handed.writes.items; waiting = log.waiting.items; relied = relied_in log.relied.items }

-- what all its files were handed, the one that is open last
abbrev pub files_of : Logged → List (List ℕ)
files_of l = l.earlier ++ l.handed ∷ []

-- how many lines the files have taken whole
abbrev pub lines_of : Logged → ℕ
lines_of l = sum_by lines_in (files_of l)

-- why a log can't be written: its file is lost, or else bytes wait for it
abbrev pub trouble_of : Bool → List ℕ → Option Trouble
trouble_of true waiting = Some trouble.Lost
trouble_of false [] = None
trouble_of false (byte ∷ bytes) = Some trouble.Unwritten

-- another file is open, or none: nothing was handed to it, nothing waits for it
abbrev pub begun_anew : Logged → Logged
begun_anew l = record { form = l.form; earlier = files_of l; handed = []; waiting = []; relied = l.relied }

abbrev pub logged_after : Look → Logged → Logged
logged_after Stands l = l
logged_after (Reopened loss) l = begun_anew l
logged_after (Lost loss fault) l = begun_anew l

-- a note that is to be recorded: one of these, and not too long
abbrev pub Wants : List Noted → Noted → Type 0
Wants notes note = Contains notes note × (length note.input ≤ most_noted)

-- Of these notes, some were recorded: what waited and their lines are handed over as far as the place takes them, and wait else. Where all is taken, the line of each note stands in what was handed over, or in what the files were handed that are shown: those that the logs of the process had open when the memory was asked. The lines are of the log's form.
pub record Records (notes : List Noted) (old new : Logged) (old_bytes new_bytes : Option (List ℕ)) (all : Bool) : Type 0 where
  pub recorded : List Noted
  pub wanted : (note : Noted) → Contains recorded note → Wants notes note
  pub more : List ℕ
  pub shown : List (List ℕ)
  pub form : new.form ≡ old.form
  pub earlier : new.earlier ≡ old.earlier
  pub handed : new.handed ≡ old.handed ++ more
  pub relied : new.relied ≡ old.relied ++ shown
  pub bytes : new_bytes ≡ append_known old_bytes more
  pub lines : old.waiting ++ flat_map (line_as old.form) recorded ≡ more ++ new.waiting
  pub whole : all ≡ true → (new.waiting ≡ []) × ((note : Noted) → Wants notes note → HasLine (line_as old.form note) new.handed ⊎ StandsIn (line_as old.form note) shown)
