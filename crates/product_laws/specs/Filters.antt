-- The same of commands that are no rollout: `check`, `record`, `tally` and `serve`.
use Rattle.std.specs.Prelude.{ℕ, Bool, List, length, Result}
use Rattle.flagops_checks.specs.Report.{IsCheckReport}
use Rattle.flagops_checks.specs.Words.{Checking}
use Rattle.flagops_checks.specs.declared.refusal.CheckRefusal.{CheckRefusal}
use Rattle.flagops_filters.specs.Record.{RecordAnswers}
use Rattle.flagops_filters.specs.Report as filters
use Rattle.flagops_filters.specs.Tally.{IsTallyReport}
use Rattle.flagops_filters.specs.Words.{Recording, Tallying}
use Rattle.flagops_shell.specs.Console.{Shown}
use Rattle.flagops_shell.specs.Files.{Holding}
use Rattle.flagops_shell.specs.Report.{Report}
use Rattle.flagops_streams.specs.Documents.{Answer, count_of}
use Rattle.flagops_streams.specs.Loading.{AnswersTo, IsRefusedOf}
use Rattle.flagops_streams.specs.Report.{Reports}
use Rattle.flagops_streams.specs.Told.{TellsServing}
use Rattle.flagops_streams.specs.Words.{Serving}
use Rattle.product_laws.specs.Whole.{AreWholeAt, IsWholeAt}

-- of `check`
abbrev pub ChecksStay : Type 0
ChecksStay = (other : Bool) (at : Holding) (c : Checking) (r : Result Report CheckRefusal) → AreWholeAt at c.documents → IsCheckReport at c r → IsCheckReport at (record c { floats = other }) r

-- of `record`, on whatever it shows before and after
abbrev pub RecordsStay : Type 0
RecordsStay =
    (other : Bool) (old new : Shown) (status : ℕ) (at : Holding) (has_failed : Bool) (a : Recording) (now : ℕ) (bytes : List ℕ) (is_cut : Bool) → IsWholeAt at a.document
    → RecordAnswers old new status at has_failed a now bytes is_cut → RecordAnswers old new status at has_failed (record a { floats = other }) now bytes is_cut

-- of `tally`
abbrev pub TalliesStay : Type 0
TalliesStay =
    (other : Bool) (at : Holding) (a : Tallying) (bytes : List ℕ) (is_cut : Bool) (r : filters.Came) → IsWholeAt at a.document
    → IsTallyReport at a bytes is_cut r → IsTallyReport at (record a { floats = other }) bytes is_cut r

-- of `serve`
abbrev pub ServedStay : Type 0
ServedStay = (other : Bool) (at : Holding) (s : Serving) (answer : Answer) → AreWholeAt at s.documents → AnswersTo at s answer → AnswersTo at (record s { floats = other }) answer

-- what `serve` shows of an answer: its line, the lines beside it, and its status
abbrev pub IsShown : Holding → Serving → Answer → Shown → Shown → ℕ → Type 0
IsShown at s answer old new status =
    Reports s.documents (TellsServing s.documents (IsRefusedOf at s) (length s.documents) s.port s.subscribers) (count_of answer) old.printed new.printed new.is_broken old.reported new.reported new.is_mute status

-- of that
abbrev pub ShownStay : Type 0
ShownStay = (other : Bool) (old new : Shown) (status : ℕ) (at : Holding) (s : Serving) (answer : Answer) → AreWholeAt at s.documents → IsShown at s answer old new status → IsShown at (record s { floats = other }) answer old new status
