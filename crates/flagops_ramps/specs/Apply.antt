-- What `apply --step` answers.
use Rattle.std.specs.Prelude.{◌≡◌, ℕ, zero, suc, List, slice_get, Option, Some, None, Result, Ok, Err}
use Rattle.flag_defs.specs.Document.{Definitions}
use Rattle.flag_defs.specs.Floats.{AreMarkedAs, Marks}
use Rattle.plan_text.specs.Answer.{Answer}
use Rattle.flagops_rollouts.specs.Apply.{IsToldReport}
use Rattle.flagops_files.specs.Documents.{IsDocumentAs}
use Rattle.flagops_files.specs.Loading.{max_text}
use Rattle.flagops_shell.specs.Files.{Holding, load_of}
use Rattle.flagops_shell.specs.Outcomes.{Lifts}
use Rattle.flagops_files.specs.declared.refusal.Refusal.{Refusal}
use Rattle.flagops_ramps.specs.Report.{Came}
use Rattle.flagops_ramps.specs.Judging.{answers_at}
use Rattle.flagops_ramps.specs.Words.{Applying}
use Rattle.flagops_ramps.specs.declared.refusal.RampRefusal.{RampRefusal}
use Rattle.flagops_ramps.specs.declared.refusal.RampRefusal.TheVariants.{Load, Rollout, NoStep}

-- the answer to the step of a number, from 1
abbrev pub answer_to : List Answer → ℕ → Option Answer
answer_to answers zero = None
answer_to answers (suc n) = slice_get answers n

-- what `apply` reports of the answer to the step, of the bytes of a document and the flags that they mean, of which some may have floats; no answer is refused
abbrev pub IsStepPut : Applying → List ℕ → Definitions → Marks → Option Answer → Came → Type 0
IsStepPut a document flags marks None r = r ≡ Err NoStep
IsStepPut a document flags marks (Some answer) r = Lifts Rollout (IsToldReport a.floats document flags marks a.key a.site a.strict answer) r

-- of the answers that were read
abbrev pub IsStepOver : Applying → List ℕ → Definitions → Marks → Result (List Answer) RampRefusal → Came → Type 0
IsStepOver a document flags marks (Err e) r = r ≡ Err e
IsStepOver a document flags marks (Ok answers) r = IsStepPut a document flags marks (answer_to answers a.step) r

-- and of the document, which is read before them
abbrev pub IsStepApplied : Holding → Applying → Result Definitions Refusal → Came → Type 0
IsStepApplied at a (Err e) r = r ≡ Err (Load e)
IsStepApplied at a (Ok flags) r = (document : List ℕ) × (load_of at a.document max_text ≡ Ok document) × (marks : Marks) × AreMarkedAs a.floats document flags marks × IsStepOver a document flags marks (answers_at at a.ramp) r

-- what the files at the paths make
unfoldable pub IsStepReport : Holding → Applying → Came → Type 0
IsStepReport at a r = (flags : Result Definitions Refusal) × IsDocumentAs a.floats at a.document flags × IsStepApplied at a flags r
