-- What the command `ramp` answers.
use Rattle.std.specs.Prelude.{◌≡◌, ◌⊎◌, ℕ, Bool, false, List, [], ◌∷◌, unwrap_or, Option, Result, Ok, Err}
use Rattle.flagops_shell.specs.Files.{Holding}
use Rattle.flagops_files.specs.Question.{Question, IsQuestionAt}
use Rattle.flagops_files.specs.declared.evidence.Evidence.{Evidence}
use Rattle.flagops_files.specs.declared.evidence.Evidence.TheVariants.{Book, Tally}
use Rattle.flagops_files.specs.declared.refusal.Refusal.{Refusal}
use Rattle.plan_text.specs.Answer.{Answer, emit, none_exists}
use Rattle.plan_text.specs.declared.fault.PlanFileFault.{PlanFileFault}
use Rattle.price_core.specs.declared.fault.PriceFault.TheVariants.{BadRequest}
use Rattle.ramp.specs.Ramp.{ArePlans, IsRefused, Recorded, in_book, in_tally}
use Rattle.ramp.specs.declared.fault.StepFault.{StepFault}
use Rattle.ramp.specs.Lines.{ramp_file, ramp_of}
use Rattle.ramp.specs.Steps.{steps_of}
use Rattle.ramp.specs.declared.file_fault.StepsFault.{StepsFault}
use Rattle.ramp.specs.declared.file_fault.StepsFault.TheVariants as steps
use Rattle.rollout.specs.Fault.{of_price}
use Rattle.rollout.specs.declared.fault.RolloutFault.{RolloutFault}
use Rattle.rollout.specs.declared.fault.RolloutFault.TheVariants.{WantOfMemory, Request}
use Rattle.flagops_rollouts.specs.Beside.{noted_with}
use Rattle.flagops_rollouts.specs.Finer.{is_finer}
use Rattle.flagops_ramps.specs.Doubts.{beside, doubt_of_steps, settle}
use Rattle.flagops_ramps.specs.Report.{Came}
use Rattle.flagops_ramps.specs.Words.{Ramping}
use Rattle.flagops_ramps.specs.declared.refusal.RampRefusal.TheVariants.{Load, Ramp, Print}
use Rattle.flagops_ramps.specs.declared.refusal.StepCall.TheVariants as call

-- steps that are refused are a request that is refused
abbrev pub of_steps : StepsFault → RolloutFault
of_steps steps.WantOfMemory = WantOfMemory
of_steps steps.Shape = Request BadRequest
of_steps (steps.Step n e) = of_price e

-- what was recorded, as steps are planned on it
abbrev pub recorded : Evidence → Recorded
recorded (Book book) = in_book book
recorded (Tally tally) = in_tally tally

-- 3 where no rule fits the last step that is answered
abbrev pub ramp_status : List Answer → ℕ
ramp_status [] = 0
ramp_status (emit rule c ∷ answers) = ramp_status answers
ramp_status (none_exists kind names ∷ answers) = 3

abbrev pub report_file : List Answer → Result (List ℕ) PlanFileFault → Came
report_file answers (Ok text) = Ok (record { text = text; status = ramp_status answers; is_told = false })
report_file answers (Err e) = Err (Print e)

-- the lines of the answers
abbrev pub report_ramp : List Answer → Came
report_ramp answers = report_file answers (ramp_file answers)

-- the whole text is a file that reads as the answers
abbrev pub Holds : List Answer → List ℕ → Type 0
Holds answers text = ramp_of text ≡ Ok answers

-- what is printed of answers reads back as the answers
abbrev pub ReadsBack : List Answer → Came → Type 0
ReadsBack answers (Ok report) = Holds answers report.text
ReadsBack answers (Err e) = Unit {0}

-- the first rule has the finer points of a factor, and each later one as many
abbrev pub is_finer_ramp : ℕ → List Answer → Bool
is_finer_ramp m [] = false
is_finer_ramp m (answer ∷ answers) = is_finer m answer

-- The answers to the steps, each planned on the rule that the one before left, beside which a person is told of a doubt, and once of finer points; or the first refusal.
abbrev pub IsRampOver : Bool → Option ℕ → Question → Result (List (List ℕ)) StepsFault → Came → Type 0
IsRampOver strict refine q (Err e) r = r ≡ Err (Ramp (of_steps e))
IsRampOver strict refine q (Ok requests) r =
    ((answers : List Answer) × ArePlans (Ok q.flags) (unwrap_or refine 1) requests (recorded q.evidence) answers × (r ≡ beside (noted_with (is_finer_ramp (unwrap_or refine 1) answers) (settle call.Ramp strict (doubt_of_steps q requests))) (report_ramp answers)) × ReadsBack answers r)
    ⊎ ((e : StepFault) × IsRefused (Ok q.flags) (unwrap_or refine 1) requests (recorded q.evidence) e × (r ≡ Err (Ramp e.fault)))

abbrev pub IsRampOf : Bool → Option ℕ → Result Question Refusal → Came → Type 0
IsRampOf strict refine (Err e) r = r ≡ Err (Load e)
IsRampOf strict refine (Ok q) r = IsRampOver strict refine q (steps_of q.request) r

-- what the files at the paths make
unfoldable pub IsRampReport : Holding → Ramping → Came → Type 0
IsRampReport at a r = (question : Result Question Refusal) × IsQuestionAt a.floats at a.document a.steps a.book question × IsRampOf a.strict a.refine question r
