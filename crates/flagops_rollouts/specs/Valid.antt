-- What `verify` tells of what `plan` printed.
use Rattle.std.specs.Prelude.{◌≡◌, ℕ, Bool, List, false, true, Option, Some, Result, Ok, Err}
use Rattle.book_core.specs.Book.{Inputs}
use Rattle.book_core.specs.Counts.{counts_of}
use Rattle.plan_text.specs.Answer.{Answer}
use Rattle.flagops_rollouts.specs.Plan.{Holds, IsPlanOf}
use Rattle.flagops_rollouts.specs.Verify.{IsVerdict, valid_as}
use Rattle.flagops_shell.specs.Files.{Holding}
use Rattle.flagops_rollouts.specs.Loaded.{plan_at}
use Rattle.flagops_files.specs.Question.{Question}
use Rattle.flagops_files.specs.declared.evidence.Evidence.{Evidence}
use Rattle.flagops_files.specs.declared.evidence.Evidence.TheVariants.{Book, Tally}
use Rattle.flagops_rollouts.specs.Refusal.{is_want, Outcomes}
use Rattle.flagops_rollouts.specs.declared.refusal.RolloutRefusal.{RolloutRefusal}
use Rattle.flagops_shell.specs.Report.{Report}

-- what is printed of a valid answer, unless memory ran out
abbrev pub IsValid : Bool → Answer → Outcomes
IsValid json answer (Ok report) = (report.text ≡ valid_as json answer) × (report.status ≡ 0)
IsValid json answer (Err e) = is_want e ≡ true

-- The text reads as an answer, and wherever it is the file at a path, `verify` tells of this file that the answer is valid.
pub record IsValidPlan (refine : Option ℕ) (q : Question) (text : List ℕ) : Type 0 where
  pub answer : Answer
  pub holds : Holds answer text
  pub valid : (json : Bool) (at : Holding) (path : List ℕ) (told : Result Report RolloutRefusal) → at path ≡ Some text → IsVerdict false json refine (Ok q) (plan_at at path) told → IsValid json answer told

-- it is the evidence of some inputs: a book is that of its own, and of a tally there are inputs of which so many fall on each point
abbrev pub IsOfInputs : Evidence → Type 0
IsOfInputs (Book book) = Unit {0}
IsOfInputs (Tally tally) = (inputs : Inputs) × (tally.counts ≡ counts_of inputs tally.total)

-- so it is with each report of `plan`, by the same factor
abbrev pub PlansAreValid : Type 0
PlansAreValid = (strict explain : Bool) (refine : Option ℕ) (q : Question) (report : Report) → IsOfInputs q.evidence → IsPlanOf strict explain refine (Ok q) (Ok report) → IsValidPlan refine q report.text
