-- What `verify-ramp` tells of what `ramp` printed.
use Rattle.std.specs.Prelude.{◌≡◌, ℕ, Bool, List, false, true, Option, Some, Ok, Err}
use Rattle.flagops_files.specs.Question.{Question}
use Rattle.flagops_rollouts.specs.Valid.{IsOfInputs}
use Rattle.flagops_shell.specs.Files.{Holding}
use Rattle.flagops_shell.specs.Report.{Report}
use Rattle.plan_text.specs.Answer.{Answer}
use Rattle.flagops_ramps.specs.Judging.{Found, IsFoundOf, answers_at}
use Rattle.flagops_ramps.specs.Ramp.{Holds, IsRampOf}
use Rattle.flagops_ramps.specs.Refusal.{is_want}
use Rattle.flagops_ramps.specs.Report.{Came}
use Rattle.flagops_ramps.specs.Verify.{report_found, valid_ramp}

-- what is printed of valid answers, unless memory ran out
abbrev pub IsValid : List Answer → Came → Type 0
IsValid answers (Ok report) = (report.text ≡ valid_ramp answers) × (report.status ≡ 0)
IsValid answers (Err e) = is_want e ≡ true

-- The text reads as answers, and wherever it is the file at a path, `verify-ramp` tells of this file that they are valid.
pub record IsValidRamp (refine : Option ℕ) (q : Question) (text : List ℕ) : Type 0 where
  pub answers : List Answer
  pub holds : Holds answers text
  pub valid : (at : Holding) (path : List ℕ) (found : Found) → at path ≡ Some text → IsFoundOf refine (Ok q) (answers_at at path) found → IsValid answers (report_found false found)

-- so it is with each report of `ramp` on the evidence of some inputs, by the same factor
abbrev pub RampsAreValid : Type 0
RampsAreValid = (strict : Bool) (refine : Option ℕ) (q : Question) (report : Report) → IsOfInputs q.evidence → IsRampOf strict refine (Ok q) (Ok report) → IsValidRamp refine q report.text
