-- What `plan --picture` answers, and the file that it writes.
use Rattle.std.specs.Prelude.{◌≡◌, ◌⊎◌, ℕ, Bool, true, IsOkAnd, List, unwrap_or, Option, Some, Result, Ok, Err}
use Rattle.plan_text.specs.Answer.{Answer}
use Rattle.plan_text.specs.PlanFile.{answer_of}
use Rattle.flagops_rollouts.specs.Plan.{IsPlanOf}
use Rattle.flagops_shell.specs.Files.{Holding, KeepsOthers, Stores}
use Rattle.flagops_files.specs.Question.{Question}
use Rattle.flagops_rollouts.specs.Loaded.{IsQuestionAt}
use Rattle.flagops_rollouts.specs.Refusal.{loads, unwritable, Outcomes}
use Rattle.flagops_shell.specs.Report.{Report, status_number}
use Rattle.flagops_shell.specs.declared.outcome.Outcome.{Outcome}
use Rattle.flagops_rollouts.specs.declared.refusal.RolloutCall.{RolloutCall}
use Rattle.flagops_files.specs.Refusal as files
use Rattle.flagops_files.specs.declared.refusal.Call.{Call}
use Rattle.flagops_files.specs.declared.refusal.Call.TheVariants as file
use Rattle.flagops_rollouts.specs.declared.refusal.RolloutCall.TheVariants as call
use Rattle.flagops_rollouts.specs.declared.refusal.RolloutRefusal.{RolloutRefusal}
use Rattle.flagops_pictures.specs.Asked.{asked_over}
use Rattle.flagops_pictures.specs.Pictured.{IsDrawn}
use Rattle.flagops_pictures.specs.Words.{Planning}

-- the text is a plan whose picture this is
abbrev pub IsPictureOf : Option ℕ → Question → List ℕ → List ℕ → Type 0
IsPictureOf refine q text bytes = (answer : Answer) × (answer_of text ≡ Ok answer) × IsDrawn (asked_over (Some (unwrap_or refine 1)) answer q) answer bytes

-- the file at the path has the picture of the plan that is reported, and every other file is as it was
abbrev pub HasPicture : Holding → Option Holding → List ℕ → Option ℕ → Question → Report → Type 0
HasPicture at after path refine q report = (bytes : List ℕ) × IsPictureOf refine q report.text bytes × Stores (Some at) after path bytes × KeepsOthers (Some at) after path

-- What is reported is what `plan` reports without a picture. Where that is a plan its picture is written, or the file is refused to be; after a refusal all files are as they were.
abbrev pub IsPlanWith : Holding → Option Holding → Planning → Question → Outcomes
IsPlanWith at after p q (Ok report) = IsPlanOf p.strict p.explain p.refine (Ok q) (Ok report) × HasPicture at after p.picture p.refine q report
IsPlanWith at after p q (Err e) = (IsPlanOf p.strict p.explain p.refine (Ok q) (Err e) ⊎ (e ≡ unwritable)) × (after ≡ Some at)

abbrev pub IsPlanPictured : Holding → Option Holding → Planning → Result Question RolloutRefusal → Outcomes
IsPlanPictured at after p (Err e) r = (r ≡ Err e) × (after ≡ Some at)
IsPlanPictured at after p (Ok q) r = IsPlanWith at after p q r

unfoldable pub IsPlanPicture : Holding → Option Holding → Planning → Outcomes
IsPlanPicture at after p r = (question : Result Question RolloutRefusal) × IsQuestionAt p.floats at p.document p.request p.book question × IsPlanPictured at after p question r

-- the files stay as they are, or a plan was printed, which has a rule or shows that none fits
abbrev pub KeepsUnlessPlanned : {E : Type 0} → Option Holding → Option Holding → Result Outcome E → Type 0
KeepsUnlessPlanned old new r = (new ≡ old) ⊎ IsOkAnd r (λ o. (status_number o.status ≡ 0) ⊎ (status_number o.status ≡ 3))

-- the calls that loading a question and writing a file makes
abbrev pub loads_and_stores : Call → Bool
loads_and_stores file.Store = true
loads_and_stores c = files.loads_question c

-- the calls that the command makes
abbrev pub plan_calls : RolloutCall → Bool
plan_calls call.Plan = true
plan_calls call.PrintPlanned = true
plan_calls c = loads loads_and_stores c
