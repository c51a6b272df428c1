-- What files come to in the program, in private contracts alone.
use Rattle.std.specs.Prelude.{◌≡◌, ◌++◌, ℕ, false, List, Result, Ok, Err, IfSome, string_bytes}
use Rattle.flagops_books.specs.Stray.{stray_report}
use Rattle.flagops_books.specs.Told.{NamesFile, passed_text}
use Rattle.flagops_books.specs.Union.{United, noted, stray}
use Rattle.flagops_books.specs.declared.uniting.Step.{Step}
use Rattle.flagops_books.specs.declared.uniting.Step.TheVariants.{Noted, Stopped}
use Rattle.flagops_books.specs.Refusal.{Attempts, is_want, Refused}
use Rattle.flagops_files.specs.Told.{AllSucceed}
use Rattle.flagops_shell.specs.Report.{outcome_view}
use Rattle.flagops_shell.specs.declared.outcome.Outcome.{Outcome}
use Rattle.flagops_shell.specs.Diagnostic.{Says}
use Rattle.flagops_books.specs.declared.refusal.BookRefusal.{BookRefusal}
use Rattle.note_lines.specs.Notes.{Notes, IsBookOf}
use Rattle.note_lines.specs.declared.taking.NotesTaken.{NotesTaken}

-- the report of a line that is refused, of whose file a person is told
abbrev pub IsStop : List ℕ → ℕ → Outcome → Type 0
IsStop path n o = (outcome_view o ≡ stray_report path n) × IfSome o.remark (Says (NamesFile path))

-- what was returned is one of these, unless memory ran out
abbrev pub GivesUnited : Result Step Refused → (Result United BookRefusal → Type 0) → Type 0
GivesUnited (Ok (Noted g)) Wanted = (all : Notes) × IsBookOf all g.book × Wanted (Ok (noted all (string_bytes g.told)))
GivesUnited (Ok (Stopped o)) Wanted = (path : List ℕ) × (n : ℕ) × Wanted (Ok (stray path n)) × IsStop path n o
GivesUnited (Err e) Wanted = is_want e.refusal ≡ false → Wanted (Err e.refusal)

-- what is attempted has succeeded, where no call and no line is refused
abbrev pub HaveSucceeded : Attempts → Result Step Refused → Type 0
HaveSucceeded attempts (Ok (Noted g)) = AllSucceed attempts
HaveSucceeded attempts (Ok (Stopped o)) = Unit {0}
HaveSucceeded attempts (Err e) = Unit {0}

-- the notes that were taken, and what is told of their file behind what was told before
abbrev pub IsStepOf : List ℕ → NotesTaken → List ℕ → Step → Type 0
IsStepOf path taken before (Noted g) = (g.book ≡ taken.book) × (string_bytes g.told ≡ before ++ passed_text path taken.passed taken.torn)
IsStepOf path taken before (Stopped o) = ⊥

-- the report of a line that is refused
abbrev pub IsStopOf : List ℕ → ℕ → Step → Type 0
IsStopOf path n (Noted g) = ⊥
IsStopOf path n (Stopped o) = IsStop path n o
