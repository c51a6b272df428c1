-- What `apply --step --keep` answers, and the document that it writes.
use Rattle.std.specs.Prelude.{◌≡◌, ℕ, ◌-◌, List, [], ◌∷◌, drop, Bool, true, false, Option, Some, None, Result, Ok, Err}
use Rattle.bucket_core.specs.Rule.{Entries}
use Rattle.flag_defs.specs.Document.{Definitions}
use Rattle.flagops_files.specs.Loading.{max_text}
use Rattle.flagops_files.specs.Question.{Question, IsQuestionAt}
use Rattle.flagops_files.specs.declared.refusal.Refusal.{Refusal}
use Rattle.std.specs.Result.{result_ok}
use Rattle.flagops_rollouts.specs.Beside.{noted_with}
use Rattle.flagops_rollouts.specs.Finer.{is_finer, times_asked}
use Rattle.flagops_rollouts.specs.Keep.{IsKeptAt, IsKeptPut, Kept}
use Rattle.flagops_rollouts.specs.Standing.{has_rule}
use Rattle.flagops_shell.specs.Files.{Holding, load_of}
use Rattle.flagops_shell.specs.Outcomes.{Lifts}
use Rattle.plan_text.specs.Answer.{Answer, emit, none_exists}
use Rattle.price_core.specs.Request.{Asked, asked_of}
use Rattle.ramp.specs.Right.{IsTold}
use Rattle.ramp.specs.declared.fault.RampFault.{RampFault}
use Rattle.ramp.specs.Steps.{steps_of}
use Rattle.ramp.specs.declared.file_fault.StepsFault.{StepsFault}
use Rattle.rollout.specs.declared.verify_fault.VerifyFault.TheVariants.{Request}
use Rattle.flagops_ramps.specs.Apply.{answer_to}
use Rattle.flagops_ramps.specs.Doubts.{doubt_of_steps, first_request, settle}
use Rattle.flagops_ramps.specs.Judging.{answers_at, refused_as}
use Rattle.flagops_ramps.specs.Ramp.{of_steps, recorded}
use Rattle.flagops_ramps.specs.Report.{Came}
use Rattle.flagops_ramps.specs.Words.{Keeping}
use Rattle.flagops_ramps.specs.declared.refusal.RampRefusal.{RampRefusal}
use Rattle.flagops_ramps.specs.declared.refusal.RampRefusal.TheVariants.{Load, NoStep, OtherRule, Rollout, Verify}
use Rattle.flagops_ramps.specs.declared.refusal.StepCall.TheVariants as call

-- ---- the document

-- the steps, or the answers, from the one of a number on, from 1
abbrev pub from_step : {X : Type 0} → ℕ → List X → List X
from_step step xs = drop (step - 1) xs

-- the answer before the step left its rule at the site; before the first step there is none
abbrev pub is_left : Definitions → Asked → Option Answer → Bool
is_left flags asked None = true
is_left flags asked (Some (none_exists kind names)) = false
is_left flags asked (Some (emit rule c)) = has_rule flags asked.flag asked.site rule

-- the document with a rule at the site that is asked for, and all else as it was, where the step before left what stands there
abbrev pub IsKeptOnto : Bool → List ℕ → Definitions → Asked → Entries → Bool → Result Kept RampRefusal → Type 0
IsKeptOnto floats document flags asked rule false r = r ≡ Err OtherRule
IsKeptOnto floats document flags asked rule true r = Lifts Rollout (IsKeptAt floats document flags asked.flag asked.site rule) r

-- the same with the rule of an answer to a request; an answer without a rule leaves the document as it is
abbrev pub IsKeptWith : Bool → List ℕ → Definitions → List ℕ → Option Answer → Answer → Result Kept RampRefusal → Type 0
IsKeptWith floats document flags request before (emit rule c) r = (asked : Asked) × (asked_of request ≡ Ok asked) × IsKeptOnto floats document flags asked rule (is_left flags asked before) r
IsKeptWith floats document flags request before (none_exists kind names) r = r ≡ Ok None

-- of the answers that are judged the first is put; why they are not right is why there is no document
abbrev pub IsKeptBy : Bool → List ℕ → Definitions → List (List ℕ) → Option Answer → Answer → Result (Unit {0}) RampFault → Result Kept RampRefusal → Type 0
IsKeptBy floats document flags requests before answer (Err e) r = r ≡ Err (refused_as e)
IsKeptBy floats document flags requests before answer (Ok u) r = IsKeptWith floats document flags (first_request requests) before answer r

-- The answers to these steps are judged as `verify-ramp` judges those to a whole rollout, the first on the rule that the document has.
abbrev pub IsKeptFrom : Bool → Option ℕ → List ℕ → Question → List (List ℕ) → Option Answer → List Answer → Result Kept RampRefusal → Type 0
IsKeptFrom floats refine document q requests before [] r = r ≡ Err NoStep
IsKeptFrom floats refine document q requests before (answer ∷ answers) r =
    (told : Result (Unit {0}) RampFault) × IsTold (Ok q.flags) refine requests (recorded q.evidence) (answer ∷ answers) told × IsKeptBy floats document q.flags requests before answer told r

-- ---- the report

-- The document is printed, or written over the one at its path. Nothing is changed where there is none, or where it is doubted and that is refused.
abbrev pub IsPut : Holding → Option Holding → Keeping → Result Bool RampRefusal → Result Kept RampRefusal → Came → Type 0
IsPut at after k settled (Err e) r = (r ≡ Err e) × (after ≡ Some at)
IsPut at after k (Err e) (Ok kept) r = (r ≡ Err e) × (after ≡ Some at)
IsPut at after k (Ok told) (Ok kept) r = Lifts Rollout (IsKeptPut at after k.answered.rollout.document k.write told kept) r

-- the rule of the first of these answers has finer points than the one at the site of its request
abbrev pub is_finer_put : Definitions → List (List ℕ) → List Answer → Bool
is_finer_put flags requests [] = false
is_finer_put flags requests (answer ∷ answers) = is_finer (times_asked flags (result_ok (asked_of (first_request requests))) answer) answer

-- what is told beside the document: that it is doubted, or has finer points
abbrev pub settled : Keeping → Question → List (List ℕ) → List Answer → Result Bool RampRefusal
settled k q requests answers = noted_with (is_finer_put q.flags (from_step k.step requests) (from_step k.step answers)) (settle call.Apply k.answered.rollout.strict (doubt_of_steps q requests))

-- from the step that is asked for on
abbrev pub IsKeepOver : Holding → Option Holding → Keeping → List ℕ → Question → List Answer → Result (List (List ℕ)) StepsFault → Came → Type 0
IsKeepOver at after k document q answers (Err e) r = (r ≡ Err (Verify (Request (of_steps e)))) × (after ≡ Some at)
IsKeepOver at after k document q answers (Ok requests) r =
    (kept : Result Kept RampRefusal) × IsKeptFrom k.answered.rollout.floats k.answered.rollout.refine document q (from_step k.step requests) (answer_to answers (k.step - 1)) (from_step k.step answers) kept
    × IsPut at after k (settled k q requests answers) kept r

-- of answers that were read, and then of the steps
abbrev pub IsKeepOf : Holding → Option Holding → Keeping → List ℕ → Question → Result (List Answer) RampRefusal → Came → Type 0
IsKeepOf at after k document q (Err e) r = (r ≡ Err e) × (after ≡ Some at)
IsKeepOf at after k document q (Ok answers) r = IsKeepOver at after k document q answers (steps_of q.request) r

-- over a question, of which the document's bytes were loaded
abbrev pub IsKeepAsked : Holding → Option Holding → Keeping → Result Question Refusal → Came → Type 0
IsKeepAsked at after k (Err e) r = (r ≡ Err (Load e)) × (after ≡ Some at)
IsKeepAsked at after k (Ok q) r = (document : List ℕ) × (load_of at k.answered.rollout.document max_text ≡ Ok document) × IsKeepOf at after k document q (answers_at at k.answered.ramp) r

-- what the files at the paths make
unfoldable pub IsKeepReport : Holding → Option Holding → Keeping → Came → Type 0
IsKeepReport at after k r =
    (question : Result Question Refusal) × IsQuestionAt k.answered.rollout.floats at k.answered.rollout.document k.answered.rollout.steps k.answered.rollout.book question × IsKeepAsked at after k question r
