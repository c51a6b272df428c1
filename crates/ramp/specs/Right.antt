-- Whether the answers to a rollout in steps are right, whoever made them.
use Rattle.std.specs.Prelude.{◌≡◌, ◌<◌, ◌≤◌, ℕ, zero, suc, ◌+◌, false, List, [], ◌∷◌, Option, Some, Result, Ok, Err}
use Rattle.book_core.specs.Book.{Contents}
use Rattle.plan_text.specs.Answer.{Answer}
use Rattle.rollout.specs.Lawful.{Problem, and_then}
use Rattle.rollout.specs.Refined.{problem_checked, refining_checked}
use Rattle.rollout.specs.CheckedTally.{IsTallyOutcome, IsTallyShown, TallyProblem, tally_problem_of}
use Rattle.rollout.specs.Verified.{IsOutcome, IsShown}
use Rattle.rollout.specs.VerifyFault.{is_want}
use Rattle.rollout.specs.declared.fault.RolloutFault.{RolloutFault}
use Rattle.rollout.specs.declared.verify_fault.VerifyFault.{VerifyFault}
use Rattle.note_tallies.specs.Tally.{PageTally}
use Rattle.ramp.specs.Ramp.{Recorded, in_book, in_tally, Standing, left_by, still}
use Rattle.ramp.specs.declared.fault.RampFault.{RampFault}
use Rattle.ramp.specs.declared.fault.RampFault.TheVariants.{Step, Lines}

-- what an answer is checked against, of the flags that its step stands on
abbrev pub checked_on : Standing → Option ℕ → Answer → List ℕ → Contents → Result Problem RolloutFault
checked_on standing refine answer request book = and_then standing (λ flags. problem_checked refine answer flags request book)

-- and what it is checked against on a tally
abbrev pub tally_checked_on : Standing → Option ℕ → Answer → List ℕ → PageTally → Result TallyProblem RolloutFault
tally_checked_on standing refine answer request t = and_then standing (λ flags. tally_problem_of (refining_checked refine answer) flags request t)

-- what is told of an answer: over the inputs of a book, or over all inputs of which so many fall on each point
abbrev pub IsStepTold : Standing → Option ℕ → List ℕ → Recorded → Answer → Result (Unit {0}) VerifyFault → Type 0
IsStepTold standing refine request (in_book book) answer told = IsOutcome (checked_on standing refine answer request book) answer told
IsStepTold standing refine request (in_tally t) answer told = IsTallyOutcome (tally_checked_on standing refine answer request t) answer told

-- what then holds of an answer that is right, over the same inputs
abbrev pub IsStepShown : Standing → Option ℕ → List ℕ → Recorded → Answer → Type 0
IsStepShown standing refine request (in_book book) answer = IsShown (checked_on standing refine answer request book) answer
IsStepShown standing refine request (in_tally t) answer = IsTallyShown (tally_checked_on standing refine answer request t) answer

-- An answer that is right for its step: it proves what it says of what the request asks, and so costs the least, or no rule fits.
pub record IsRight (standing : Standing) (refine : Option ℕ) (request : List ℕ) (recorded : Recorded) (answer : Answer) : Type 0 where
  pub told : IsStepTold standing refine request recorded answer (Ok tt)
  pub shown : IsStepShown standing refine request recorded answer

-- what is told of the answer to a step: that it is right, or the first refusal, unless memory ran out
abbrev pub TellsStep : Standing → Option ℕ → List ℕ → Recorded → Answer → Result (Unit {0}) VerifyFault → Type 0
TellsStep standing refine request recorded answer (Ok u) = IsRight standing refine request recorded answer
TellsStep standing refine request recorded answer (Err e) = is_want e ≡ false → IsStepTold standing refine request recorded answer (Err e)

-- The answers are right in turn: the first on these flags, by the factor that is given or else as it tells, and each other on what the one before leaves, on the rule itself.
abbrev pub AreRight : Standing → Option ℕ → List (List ℕ) → Recorded → List Answer → Type 0
AreRight standing refine [] recorded [] = Unit {0}
AreRight standing refine [] recorded (answer ∷ answers) = ⊥
AreRight standing refine (request ∷ requests) recorded [] = ⊥
AreRight standing refine (request ∷ requests) recorded (answer ∷ answers) =
    IsRight standing refine request recorded answer × AreRight (left_by standing request answer) (Some 1) (still answer requests) recorded answers

-- so many of the answers are right, and the next one is told so
abbrev pub IsWrongAfter : Standing → Option ℕ → List (List ℕ) → Recorded → List Answer → ℕ → VerifyFault → Type 0
IsWrongAfter standing refine [] recorded answers n e = ⊥
IsWrongAfter standing refine (request ∷ requests) recorded [] n e = ⊥
IsWrongAfter standing refine (request ∷ requests) recorded (answer ∷ answers) zero e = IsStepTold standing refine request recorded answer (Err e)
IsWrongAfter standing refine (request ∷ requests) recorded (answer ∷ answers) (suc n) e =
    IsRight standing refine request recorded answer × IsWrongAfter (left_by standing request answer) (Some 1) (still answer requests) recorded answers n e

-- all that are there are right, but one is lacking, or there is one too many
abbrev pub AreMiscounted : Standing → Option ℕ → List (List ℕ) → Recorded → List Answer → Type 0
AreMiscounted standing refine [] recorded [] = ⊥
AreMiscounted standing refine [] recorded (answer ∷ answers) = Unit {0}
AreMiscounted standing refine (request ∷ requests) recorded [] = Unit {0}
AreMiscounted standing refine (request ∷ requests) recorded (answer ∷ answers) =
    IsRight standing refine request recorded answer × AreMiscounted (left_by standing request answer) (Some 1) (still answer requests) recorded answers

-- what is told of the answers: all are right, the first is not, or their number is not that of the steps
abbrev pub IsTold : Standing → Option ℕ → List (List ℕ) → Recorded → List Answer → Result (Unit {0}) RampFault → Type 0
IsTold standing refine requests recorded answers (Ok u) = AreRight standing refine requests recorded answers
IsTold standing refine requests recorded answers (Err Lines) = AreMiscounted standing refine requests recorded answers
IsTold standing refine requests recorded answers (Err (Step n e)) =
    is_want e ≡ false → (before : ℕ) × (n ≡ before + 1) × IsWrongAfter standing refine requests recorded answers before e

-- A step that is told is one of those that have an answer: where the next one is lacking, nothing is told in its place.
abbrev pub IsOfAnswered : ℕ → Result (Unit {0}) RampFault → Type 0
IsOfAnswered count (Ok u) = Unit {0}
IsOfAnswered count (Err Lines) = Unit {0}
IsOfAnswered count (Err (Step n e)) = (0 < n) × (n ≤ count)
