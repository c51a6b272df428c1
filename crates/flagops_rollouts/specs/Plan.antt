-- What the command `plan` answers.
use Rattle.std.specs.Prelude.{◌≡◌, ◌||◌, ℕ, Bool, false, List, unwrap_or, IfOk, Option, Result, Ok, Err}
use Rattle.plan_text.specs.Answer.{Answer, emit, none_exists, IsOrdered, planned_view}
use Rattle.plan_text.specs.PlanFile.{IsWhole, answer_of, plan_line}
use Rattle.flag_defs.specs.Document.{Definitions}
use Rattle.rollout.specs.Plan.{IsPlanned, IsTallyPlanned}
use Rattle.rollout.specs.Refined.{problem_refined}
use Rattle.rollout.specs.CheckedTally.{tally_problem_of}
use Rattle.rollout.specs.declared.fault.RolloutFault.{RolloutFault}
use Rattle.rollout.specs.declared.refining.Refining.TheVariants.{Times}
use Rattle.plan_text.specs.declared.planned.Planned.{Planned}
use Rattle.flagops_shell.specs.Files.{Holding}
use Rattle.flagops_shell.specs.Outcomes.{◌>>=◌, refused_by, beside}
use Rattle.flagops_files.specs.Question.{Question}
use Rattle.flagops_rollouts.specs.Loaded.{IsQuestionAt}
use Rattle.flagops_shell.specs.Report.{Report}
use Rattle.flagops_rollouts.specs.Doubts.{doubt_of, settle}
use Rattle.flagops_rollouts.specs.Finer.{is_finer}
use Rattle.flagops_rollouts.specs.declared.refusal.RolloutCall.TheVariants as call
use Rattle.flagops_files.specs.declared.evidence.Evidence.{Evidence}
use Rattle.flagops_files.specs.declared.evidence.Evidence.TheVariants.{Book, Tally}
use Rattle.flagops_rollouts.specs.Refusal.{Outcomes}
use Rattle.flagops_rollouts.specs.declared.refusal.RolloutRefusal.{RolloutRefusal}
use Rattle.flagops_rollouts.specs.declared.refusal.RolloutRefusal.TheVariants.{Plan, PrintPlanned}

-- 3 where no rule fits
abbrev pub plan_status : Answer → ℕ
plan_status (emit rule c) = 0
plan_status (none_exists kind names) = 3

-- the plan file of the answer, as a line
abbrev pub plan_report : Answer → Result Report RolloutRefusal
plan_report answer = refused_by PrintPlanned (plan_line answer) >>= λ text. Ok (record { text = text; status = plan_status answer; is_told = false })

-- the report of what was planned by a factor, beside which a person is told of a doubt, of the plan in words where that is asked for, and of finer points
abbrev pub report_planned : ℕ → Bool → Result Bool RolloutRefusal → Result Planned RolloutFault → Result Report RolloutRefusal
report_planned m explain settled planned = refused_by Plan planned >>= λ p. settled >>= λ told. beside ((explain || told) || is_finer m (planned_view p)) (plan_report (planned_view p))

-- What is planned on the rule refined by a factor, least over the recorded inputs: over those of a book, or over all inputs of
-- which so many fall on each point as a tally says.
abbrev pub IsPlannedOn : ℕ → Definitions → List ℕ → Evidence → Result Planned RolloutFault → Type 0
IsPlannedOn m flags request (Book book) planned = IsPlanned (problem_refined m flags request book) planned
IsPlannedOn m flags request (Tally tally) planned = IsTallyPlanned (tally_problem_of (Times m) flags request tally) planned

-- what may be planned of a question, on the rule itself where no factor is given
pub record MayBePlanned (refine : Option ℕ) (q : Question) (planned : Result Planned RolloutFault) : Type 0 where
  -- an answer to the request, or its first refusal
  pub answers : IsPlannedOn (unwrap_or refine 1) q.flags q.request q.evidence planned
  -- the rule is canonical, and groups and names rise strictly
  pub ordered : IfOk planned (λ p. IsOrdered (planned_view p))
  -- each number fits a plan file
  pub whole : IfOk planned (λ p. IsWhole (planned_view p))

-- the whole text, its line end too, is a plan file that reads as the answer
abbrev pub Holds : Answer → List ℕ → Type 0
Holds answer text = answer_of text ≡ Ok answer

-- what is printed of an answer reads back as the answer
abbrev pub ReadsBack : Result Planned RolloutFault → Result Report RolloutRefusal → Type 0
ReadsBack (Err e) r = Unit {0}
ReadsBack (Ok p) (Err e) = Unit {0}
ReadsBack (Ok p) (Ok report) = Holds (planned_view p) report.text

-- what was planned, unless it is doubted and `--strict` refuses that
abbrev pub IsPlanOf : Bool → Bool → Option ℕ → Result Question RolloutRefusal → Outcomes
IsPlanOf strict explain refine (Err e) r = r ≡ Err e
IsPlanOf strict explain refine (Ok q) r =
    (planned : Result Planned RolloutFault) × MayBePlanned refine q planned × (r ≡ report_planned (unwrap_or refine 1) explain (settle call.Plan strict (doubt_of q)) planned) × ReadsBack planned r

unfoldable pub IsPlanReport : Bool → Holding → List ℕ → List ℕ → List ℕ → Option ℕ → Bool → Bool → Outcomes
IsPlanReport floats at document request book refine strict explain r =
    (question : Result Question RolloutRefusal) × IsQuestionAt floats at document request book question × IsPlanOf strict explain refine question r
