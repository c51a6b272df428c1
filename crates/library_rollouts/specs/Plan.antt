-- What is planned of a request over a tally.
use Rattle.std.specs.Prelude.{◌≡◌, ℕ, List, Bool, true, false, IfOk, Result, Ok, Err}
use Rattle.flag_defs.specs.Document.{Definitions}
use Rattle.plan_text.specs.Answer.{Answer, emit, none_exists, IsOrdered, planned_view}
use Rattle.plan_text.specs.PlanFile.{IsWhole, answer_of, plan_line}
use Rattle.plan_text.specs.declared.fault.PlanFileFault.{PlanFileFault}
use Rattle.plan_text.specs.declared.planned.Planned.{Planned}
use Rattle.rollout.specs.Plan.{IsTallyPlanned}
use Rattle.rollout.specs.CheckedTally.{tally_problem_of}
use Rattle.rollout.specs.declared.fault.RolloutFault.{RolloutFault}
use Rattle.rollout.specs.declared.refining.Refining.TheVariants.{Times}
use Rattle.note_tallies.specs.Tally.{PageTally}
use Rattle.library_rollouts.specs.Reading.{OfFlags, OfTally}
use Rattle.library_rollouts.specs.Refusal.{of_plan, of_rollout}
use Rattle.library_rollouts.specs.Writing.{Meaning}
use Rattle.library_rollouts.specs.declared.refusal.RolloutRefusal.{RolloutRefusal}

-- what may be planned
pub record MayBePlanned (flags : Definitions) (request : List ℕ) (tally : PageTally) (planned : Result Planned RolloutFault) : Type 0 where
  -- an answer for all inputs of which so many fall on each point, or the first refusal of the request
  pub answers : IsTallyPlanned (tally_problem_of (Times 1) flags request tally) planned
  -- the rule is canonical, and groups and names rise strictly
  pub ordered : IfOk planned (λ p. IsOrdered (planned_view p))
  -- each number fits a plan file
  pub whole : IfOk planned (λ p. IsWhole (planned_view p))

-- a rule fits
abbrev pub has_rule : Answer → Bool
has_rule (emit rule c) = true
has_rule (none_exists kind names) = false

-- the plan file of an answer as a line, and whether a rule fits
abbrev pub line_report : Answer → Result (List ℕ) PlanFileFault → Result (List ℕ × Bool) RolloutRefusal
line_report answer (Ok text) = Ok (text, has_rule answer)
line_report answer (Err e) = Err (of_plan e)

abbrev pub plan_report : Result Planned RolloutFault → Result (List ℕ × Bool) RolloutRefusal
plan_report (Ok p) = line_report (planned_view p) (plan_line (planned_view p))
plan_report (Err e) = Err (of_rollout e)

-- what is written reads back as the answer
abbrev pub ReadsBack : Result Planned RolloutFault → Result (List ℕ × Bool) RolloutRefusal → Type 0
ReadsBack (Ok p) (Ok made) = answer_of made.0 ≡ Ok (planned_view p)
ReadsBack (Ok p) (Err e) = Unit {0}
ReadsBack (Err e) r = Unit {0}

abbrev pub IsPlanOn : List ℕ → Definitions → PageTally → Meaning Bool
IsPlanOn request flags tally r = (planned : Result Planned RolloutFault) × MayBePlanned flags request tally planned × (r ≡ plan_report planned) × ReadsBack planned r

-- The plan file of an answer to a request, on the rule itself; or the first refusal: of the document, the tally, the request, the size of the file.
abbrev pub IsPlan : List ℕ → List ℕ → List ℕ → Meaning Bool
IsPlan document request tally = OfFlags document (λ flags. OfTally tally (IsPlanOn request flags))
