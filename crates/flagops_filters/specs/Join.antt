-- What the command `join` comes to.
use Rattle.std.specs.Prelude.{◌≡◌, ◌⊎◌, ℕ, false, List, [], ◌∷◌, Result, Ok, Err}
use Rattle.flagops_shell.specs.Files.{Holding, load_of}
use Rattle.flagops_files.specs.Loading.{max_rule}
use Rattle.flagops_shell.specs.Outcomes.{refused_by}
use Rattle.flagops_files.specs.declared.refusal.Refusal.{Refusal}
use Rattle.flagops_files.specs.declared.refusal.Refusal.TheVariants.{Load as Unread, ReadTally}
use Rattle.note_tallies.specs.Join.{Joins}
use Rattle.note_tallies.specs.Tally.{PageTally}
use Rattle.note_tallies.specs.declared.joining.JoinFault.{JoinFault}
use Rattle.note_tallies.specs.File.{tally_text}
use Rattle.note_tallies.specs.Reading.{ReadsTally}
use Rattle.note_tallies.specs.declared.file_fault.TallyFileFault.{TallyFileFault}
use Rattle.flagops_filters.specs.Report.{Came}
use Rattle.flagops_filters.specs.declared.refusal.FilterRefusal.{FilterRefusal}
use Rattle.flagops_filters.specs.declared.refusal.FilterRefusal.TheVariants.{Load, Join}

abbrev pub read_as : Result PageTally TallyFileFault → Result PageTally FilterRefusal
read_as (Ok t) = Ok t
read_as (Err e) = Err (Load (ReadTally e))

-- the tally of the file at a path, or why it is none
abbrev pub IsTallyIn : Result (List ℕ) Refusal → Result PageTally FilterRefusal → Type 0
IsTallyIn (Err e) r = r ≡ Err (Load e)
IsTallyIn (Ok bytes) r = (read : Result PageTally TallyFileFault) × ReadsTally bytes read × (r ≡ read_as read)

unfoldable pub IsTallyOf : Holding → List ℕ → Result PageTally FilterRefusal → Type 0
IsTallyOf at path r = IsTallyIn (refused_by Unread (load_of at path max_rule)) r

-- the tally of the lines of one and of the files at these paths, each read and joined before the next, or the first refusal
abbrev pub JoinsFiles : Holding → PageTally → List (List ℕ) → Result PageTally FilterRefusal → Type 0
JoinsFiles at one [] r = r ≡ Ok one
JoinsFiles at one (path ∷ paths) r =
    ((next : PageTally) × (both : PageTally) × IsTallyOf at path (Ok next) × Joins one next (Ok both) × JoinsFiles at both paths r)
    ⊎ ((next : PageTally) × (fault : JoinFault) × IsTallyOf at path (Ok next) × Joins one next (Err fault) × (r ≡ Err (Join fault)))
    ⊎ ((e : FilterRefusal) × IsTallyOf at path (Err e) × (r ≡ Err e))

-- of the files at these paths, of which there is one at least
abbrev pub JoinsAllFiles : Holding → List (List ℕ) → Result PageTally FilterRefusal → Type 0
JoinsAllFiles at [] r = ⊥
JoinsAllFiles at (path ∷ paths) r =
    ((one : PageTally) × IsTallyOf at path (Ok one) × JoinsFiles at one paths r)
    ⊎ ((e : FilterRefusal) × IsTallyOf at path (Err e) × (r ≡ Err e))

-- what is printed of it
abbrev pub report_joined : Result PageTally FilterRefusal → Came
report_joined (Ok t) = Ok (record { text = tally_text t; status = 0; is_told = false })
report_joined (Err e) = Err e

unfoldable pub IsJoinReport : Holding → List (List ℕ) → Came → Type 0
IsJoinReport at paths r = (joined : Result PageTally FilterRefusal) × JoinsAllFiles at paths joined × (r ≡ report_joined joined)
