-- What a command writes and ends with.
use Rattle.std.specs.Prelude.{◌≡◌, ◌<◌, ◌⊎◌, ◌++◌, ℕ, Bool, true, false, List, length, Option, is_some, Result, Ok, Err, codes, decimal}
use Rattle.std.specs.Io.KnownBytes.{Appends}
use Rattle.flag_text.specs.Outlet.{AppendsPart}
use Rattle.flagops_shell.specs.Console.{Shown}
use Rattle.flagops_shell.specs.declared.outcome.Outcome.{Outcome}
use Rattle.flagops_shell.specs.declared.outcome.Status.{Status}
use Rattle.flagops_shell.specs.declared.outcome.Status.TheVariants.{Done, Refused, Usage, NoneExists}

-- the text on the output, the status of the process, and whether a person is told something beside the output
pub record Report : Type 0 where
  pub text : List ℕ
  pub status : ℕ
  pub is_told : Bool

abbrev pub status_number : Status → ℕ
status_number Done = 0
status_number Refused = 1
status_number Usage = 2
status_number NoneExists = 3

abbrev pub outcome_view : Outcome → Report
outcome_view o = record { text = o.text.items; status = status_number o.status; is_told = is_some o.remark }

-- a refusal is reported by its line, with status 1, and told in words
abbrev pub refusal_report : List ℕ → Report
refusal_report line = record { text = line; status = 1; is_told = true }

-- what a command came to is reported, by the lines of its refusals
abbrev pub report_by : {R : Type 0} → (R → List ℕ) → Result Report R → Report
report_by line_of (Ok r) = r
report_by line_of (Err e) = refusal_report (line_of e)

-- The text was written and the status given; or the outlet broke, and a front of it is there with status 1.
abbrev pub Reports : Option (List ℕ) → Option (List ℕ) → Bool → ℕ → Report → Type 0
Reports old new false status wanted = Appends old new wanted.text × (status ≡ wanted.status)
Reports old new true status wanted = AppendsPart old new wanted.text × (status ≡ 1)

-- the text was appended, or a front of it where the outlet failed
abbrev pub Puts : Option (List ℕ) → Option (List ℕ) → Bool → List ℕ → Type 0
Puts old new false text = Appends old new text
Puts old new true text = AppendsPart old new text

-- a text that is not empty was put so
abbrev pub PutsText : Option (List ℕ) → Option (List ℕ) → Bool → Type 0
PutsText old new is_broken = (text : List ℕ) × (0 < length text) × Puts old new is_broken text

-- what is for a person: a text that is not empty, or nothing
abbrev pub TellsIf : Option (List ℕ) → Option (List ℕ) → Bool → Bool → Type 0
TellsIf old new is_broken false = new ≡ old
TellsIf old new is_broken true = PutsText old new is_broken

-- the report on the output, whatever becomes of what is told beside it, and what is told, whatever becomes of the output
abbrev pub ReportsAll : Option (List ℕ) → Option (List ℕ) → Bool → Option (List ℕ) → Option (List ℕ) → Bool → ℕ → Report → Type 0
ReportsAll out out_after is_broken err err_after is_err_broken status wanted =
    Reports out out_after is_broken status wanted × TellsIf err err_after is_err_broken wanted.is_told

-- the same, by what the console showed before and shows after
abbrev pub ShowsReport : Shown → Shown → ℕ → Report → Type 0
ShowsReport old new status wanted = ReportsAll old.printed new.printed new.is_broken old.reported new.reported new.is_mute status wanted

-- the line where the call of a name ran out of memory
abbrev pub want_line_of : List ℕ → List ℕ
want_line_of name = codes "refused " ++ (name ++ codes " 0 WantOfMemory\n")

-- the line where a call of a name refused a file, by fault 1
abbrev pub refused_file : List ℕ → List ℕ → List ℕ
refused_file call name = codes "refused " ++ (call ++ (codes " " ++ (decimal 1 ++ (codes " " ++ (name ++ codes "\n")))))

-- the lines of a file that could not be read, or not be written
abbrev pub unreadable_line : List ℕ
unreadable_line = refused_file (codes "load") (codes "Unreadable")

abbrev pub unwritable_line : List ℕ
unwritable_line = refused_file (codes "store") (codes "Unwritable")

abbrev pub IsFileLine : List ℕ → Type 0
IsFileLine line = (line ≡ unreadable_line) ⊎ (line ≡ unwritable_line)
