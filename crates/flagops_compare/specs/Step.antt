-- What the program gives, in private contracts alone.
use Rattle.std.specs.Prelude.{◌≡◌, ℕ, Bool, false, List, Option, Result, Ok, Err}
use Rattle.flagops_compare.specs.Drawn.{Draws}
use Rattle.flagops_compare.specs.Refusal.{is_unread, is_want}
use Rattle.flagops_compare.specs.Report.{Came, NamesRefused}
use Rattle.flagops_compare.specs.Words.{Comparing}
use Rattle.flagops_compare.specs.declared.refusal.CompareRefusal.{CompareRefusal}
use Rattle.flagops_compare.specs.declared.refusal.CompareRefusal.TheVariants.{Load}
use Rattle.flagops_files.specs.Refusal.{Attempts, unwritable}
use Rattle.flagops_files.specs.Told.{NamesSubject, file}
use Rattle.flagops_shell.specs.Diagnostic.{Says}
use Rattle.flagops_shell.specs.Ending as ending
use Rattle.flagops_shell.specs.Files.{Holding}
use Rattle.flagops_shell.specs.Given as given
use Rattle.flagops_shell.specs.Report.{outcome_view}
use Rattle.flagops_shell.specs.declared.outcome.Outcome.{Outcome}
use Rattle.flagops_shell.specs.declared.refused.Refused.{Refused}
use Rattle.picture.specs.Spelling.{Pictures}

abbrev pub Told : Type 0
Told = Refused CompareRefusal

-- what was returned is one of these, unless memory ran out
abbrev pub GivesOne : Result Outcome Told → (Came → Type 0) → Type 0
GivesOne r Wanted = given.GivesOne is_want outcome_view r Wanted

-- a file could not be read
abbrev pub is_file_fault : {X : Type 0} → Result X Told → Bool
is_file_fault r = ending.is_file_fault is_unread r

-- a refusal is told by the name of the first file that is refused
abbrev pub TellsRefused : Attempts → Comparing → Result Outcome Told → Type 0
TellsRefused attempts a (Ok o) = Unit {0}
TellsRefused attempts a (Err t) = is_want t.refusal ≡ false → NamesRefused attempts a t.refusal t.remark

-- a picture was written, or refused to be, and then all files are as they were
abbrev pub IsDrawnAt : {X : Type 0} → Pictures → List ℕ → Option Holding → Option Holding → Result X Told → Type 0
IsDrawnAt ps path old new (Ok x) = Draws ps path old new
IsDrawnAt ps path old new (Err t) = (is_want t.refusal ≡ false → (t.refusal ≡ Load unwritable) × Says (NamesSubject (file path)) t.remark) × (new ≡ old)
