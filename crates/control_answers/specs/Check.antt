-- Whether an answer to a request is right on what files hold.
use Rattle.std.specs.Prelude.{◌≡◌, ℕ, List, codes, decimal, ◌++◌, OnOk, Result, Ok, Err}
use Rattle.flag_defs.specs.Document.{Definitions}
use Rattle.plan_text.specs.Answer.{Answer, emit, none_exists}
use Rattle.plan_text.specs.PlanFile.{answer_of}
use Rattle.plan_text.specs.declared.fault.PlanFileFault.{PlanFileFault}
use Rattle.rollout.specs.CheckedTally.{IsTallyOutcome, IsTallyShown, tally_problem_of}
use Rattle.rollout.specs.Verified.{refining_for}
use Rattle.rollout.specs.declared.verify_fault.VerifyFault.{VerifyFault}
use Rattle.note_tallies.specs.Tally.{PageTally}
use Rattle.control_answers.specs.Refusal.{of_read, of_verdict}
use Rattle.control_answers.specs.Target.{target_of}
use Rattle.control_answers.specs.Turns.{OfFiles, Outcomes, WithTarget}
use Rattle.control_answers.specs.declared.refusal.ControlRefusal.{ControlRefusal}

-- what may be told of an answer
pub record MayBeTold (flags : Definitions) (request : List ℕ) (t : PageTally) (answer : Answer) (verdict : Result (Unit {0}) VerifyFault) : Type 0 where
  -- that it is right for all inputs of which so many fall on each point, or the first refusal of the request or of the check
  pub told : IsTallyOutcome (tally_problem_of (refining_for answer) flags request t) answer verdict
  -- and where it is right, its rule costs them the least of all that fit, or no rule fits
  pub shown : OnOk verdict (IsTallyShown (tally_problem_of (refining_for answer) flags request t) answer)

-- what is told of a right answer: its cost, null where no rule fits
abbrev pub valid_text : Answer → List ℕ
valid_text (emit rule c) = codes "{\"cost\":" ++ (decimal c.cost ++ codes ",\"valid\":true}\n")
valid_text (none_exists kind names) = codes "{\"cost\":null,\"valid\":true}\n"

abbrev pub verdict_report : Answer → Result (Unit {0}) VerifyFault → Result (List ℕ) ControlRefusal
verdict_report answer (Ok right) = Ok (valid_text answer)
verdict_report answer (Err e) = Err (of_verdict e)

abbrev pub IsVerdictOn : Definitions → List ℕ → Answer → PageTally → Outcomes (List ℕ)
IsVerdictOn flags request answer t r = (verdict : Result (Unit {0}) VerifyFault) × MayBeTold flags request t answer verdict × (r ≡ verdict_report answer verdict)

abbrev pub WithAnswer : {B : Type 0} → (Answer → Outcomes B) → Result Answer PlanFileFault → Outcomes B
WithAnswer Next (Err e) r = r ≡ Err (of_read e)
WithAnswer Next (Ok answer) r = Next answer r

-- on the tally of what files hold of the request's page
abbrev pub IsVerdictOf : Definitions → List ℕ → List (List ℕ) → Answer → Outcomes (List ℕ)
IsVerdictOf flags request files answer = WithTarget (λ target. OfFiles files target (IsVerdictOn flags request answer)) (target_of flags request)

-- That the answer of a plan file is right on what files hold, with its cost; or the first refusal: of the plan file, the request and its
-- site, the files, the request on their tally, the check.
abbrev pub IsCheckAnswer : Definitions → List ℕ → List ℕ → List (List ℕ) → Outcomes (List ℕ)
IsCheckAnswer flags request plan files = WithAnswer (IsVerdictOf flags request files) (answer_of plan)
