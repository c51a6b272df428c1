-- What is told of an answer to a request over a tally.
use Rattle.std.specs.Prelude.{◌≡◌, ℕ, List, OnOk, Result, Ok, Err}
use Rattle.flag_defs.specs.Document.{Definitions}
use Rattle.plan_text.specs.Answer.{Answer}
use Rattle.rollout.specs.CheckedTally.{IsTallyOutcome, IsTallyShown, tally_problem_of}
use Rattle.rollout.specs.Verified.{refining_for}
use Rattle.rollout.specs.declared.verify_fault.VerifyFault.{VerifyFault}
use Rattle.note_tallies.specs.Tally.{PageTally}
use Rattle.library_rollouts.specs.Reading.{OfAnswer, OfFlags, OfTally}
use Rattle.library_rollouts.specs.Refusal.{of_verdict}
use Rattle.library_rollouts.specs.declared.refusal.RolloutRefusal.{RolloutRefusal}

-- what may be told of an answer
pub record MayBeTold (flags : Definitions) (request : List ℕ) (tally : PageTally) (answer : Answer) (verdict : Result (Unit {0}) VerifyFault) : Type 0 where
  -- that it is right for all inputs of which so many fall on each point, or the first refusal of the request or of the check
  pub told : IsTallyOutcome (tally_problem_of (refining_for answer) flags request tally) answer verdict
  -- and where it is right, its rule costs them the least of all that fit, or no rule fits
  pub shown : OnOk verdict (IsTallyShown (tally_problem_of (refining_for answer) flags request tally) answer)

abbrev pub verdict_report : Result (Unit {0}) VerifyFault → Result (Unit {0}) RolloutRefusal
verdict_report (Ok right) = Ok right
verdict_report (Err e) = Err (of_verdict e)

abbrev pub IsVerdictOn : List ℕ → Definitions → PageTally → Answer → Result (Unit {0}) RolloutRefusal → Type 0
IsVerdictOn request flags tally answer r = (verdict : Result (Unit {0}) VerifyFault) × MayBeTold flags request tally answer verdict × (r ≡ verdict_report verdict)

-- That the answer of a plan file is right; or the first refusal: of the document, the tally, the plan file, the request, the check.
abbrev pub IsVerdict : List ℕ → List ℕ → List ℕ → List ℕ → Result (Unit {0}) RolloutRefusal → Type 0
IsVerdict document request tally plan = OfFlags document (λ flags. OfTally tally (λ t. OfAnswer plan (IsVerdictOn request flags t)))
