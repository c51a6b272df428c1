-- The answers to a rollout in steps: each step is planned on the rule that the step before left.
use Rattle.std.specs.Prelude.{◌≡◌, ◌≢◌, ℕ, ◌+◌, Bool, true, false, if◌then◌else◌, List, [], ◌∷◌, length, map, Vec, Result, Ok, Err}
use Rattle.std.specs.declared.alloc.Global.{Global}
use Rattle.book_core.specs.Book.{Contents, Inputs}
use Rattle.bucket_core.specs.Rule.{Entries}
use Rattle.flag_defs.specs.Flags.{AreFlags}
use Rattle.flag_defs.specs.Document.{Definitions}
use Rattle.price_core.specs.Request.{asked_of}
use Rattle.plan_text.specs.Answer.{Answer, emit, none_exists, planned_view}
use Rattle.plan_text.specs.declared.planned.Planned.{Planned}
use Rattle.rollout.specs.Applied.{applied}
use Rattle.rollout.specs.Lawful.{Problem, and_then, by_price}
use Rattle.rollout.specs.Plan.{IsPlan}
use Rattle.rollout.specs.Refined.{problem_refined}
use Rattle.rollout.specs.CheckedTally.{AreTallied, TallyProblem, tally_problem_of, with_inputs}
use Rattle.rollout.specs.declared.fault.RolloutFault.{RolloutFault}
use Rattle.rollout.specs.declared.fault.RolloutFault.TheVariants.{WantOfMemory}
use Rattle.rollout.specs.declared.refining.Refining.TheVariants.{Times}
use Rattle.note_tallies.specs.Tally.{PageTally}
use Rattle.ramp.specs.declared.fault.StepFault.{StepFault}

-- the flags that a step stands on, or why there are none
abbrev pub Standing : Type 0
Standing = Result Definitions RolloutFault

-- the flags with the rule at the site that the request names
abbrev pub with_rule : Definitions → List ℕ → Entries → Standing
with_rule flags request rule = and_then (by_price (asked_of request)) (λ asked. applied flags asked.flag asked.site rule)

-- what the answer to a request leaves for the next step: its rule stands at the site
abbrev pub left_by : Standing → List ℕ → Answer → Standing
left_by standing request (emit rule c) = and_then standing (λ flags. with_rule flags request rule)
left_by standing request (none_exists kind names) = standing

-- the rollout goes on after a rule
abbrev pub goes_on : Answer → Bool
goes_on (emit rule c) = true
goes_on (none_exists kind names) = false

-- the steps that are still to be planned after an answer: none where no rule fits
abbrev pub still : Answer → List (List ℕ) → List (List ℕ)
still answer requests = if goes_on answer then requests else []

-- ---- a step

-- What was recorded of the users that a rollout has reached: the inputs of a book, or how many of one page fall on each point.
pub data Recorded : Type 0 where
  in_book : Contents → Recorded
  in_tally : PageTally → Recorded

-- A plan of what a request asks, on the site's rule refined by a factor: over the inputs of a book, or over all inputs of which so many fall on each point.
abbrev pub IsPlanOn : ℕ → Definitions → List ℕ → Recorded → Answer → Type 0
IsPlanOn m flags request (in_book book) answer = (p : Problem) × (problem_refined m flags request book ≡ Ok p) × IsPlan p answer
IsPlanOn m flags request (in_tally t) answer =
    (p : TallyProblem) × (tally_problem_of (Times m) flags request t ≡ Ok p) × ((inputs : Inputs) → AreTallied p inputs → IsPlan (with_inputs p inputs) answer)

-- An answer to a step: a plan of what its request asks of the flags that the step stands on.
pub record IsStep (standing : Standing) (m : ℕ) (request : List ℕ) (recorded : Recorded) (answer : Answer) : Type 0 where
  pub flags : Definitions
  pub stands : standing ≡ Ok flags
  pub lawful : AreFlags flags
  pub plan : IsPlanOn m flags request recorded answer

-- what a step is asked, on the site's rule refined by a factor
abbrev pub problem_on : Standing → ℕ → List ℕ → Contents → Result Problem RolloutFault
problem_on standing m request book = and_then standing (λ flags. problem_refined m flags request book)

-- and what it is asked of a tally
abbrev pub tally_problem_on : Standing → ℕ → List ℕ → PageTally → Result TallyProblem RolloutFault
tally_problem_on standing m request t = and_then standing (λ flags. tally_problem_of (Times m) flags request t)

-- what it is asked is refused so
abbrev pub IsStepRefused : Standing → ℕ → List ℕ → Recorded → RolloutFault → Type 0
IsStepRefused standing m request (in_book book) e = problem_on standing m request book ≡ Err e
IsStepRefused standing m request (in_tally t) e = tally_problem_on standing m request t ≡ Err e

-- what is answered to a step: a plan, or the first refusal, unless memory ran out
abbrev pub AnswersStep : Standing → ℕ → List ℕ → Recorded → Result Planned RolloutFault → Type 0
AnswersStep standing m request recorded (Ok planned) = IsStep standing m request recorded (planned_view planned)
AnswersStep standing m request recorded (Err e) = e ≢ WantOfMemory → IsStepRefused standing m request recorded e

-- ---- all steps

-- The answers to the requests, in turn: the first step stands on these flags and refines the rule by m, and each other stands on what the one before left. A step for which no rule fits is the last.
abbrev pub ArePlans : Standing → ℕ → List (List ℕ) → Recorded → List Answer → Type 0
ArePlans standing m [] recorded [] = Unit {0}
ArePlans standing m [] recorded (answer ∷ answers) = ⊥
ArePlans standing m (request ∷ requests) recorded [] = ⊥
ArePlans standing m (request ∷ requests) recorded (answer ∷ answers) =
    IsStep standing m request recorded answer × ArePlans (left_by standing request answer) 1 (still answer requests) recorded answers

-- the steps before have these answers, and the next one is refused so
abbrev pub IsRefusedAfter : Standing → ℕ → List (List ℕ) → Recorded → List Answer → RolloutFault → Type 0
IsRefusedAfter standing m [] recorded before e = ⊥
IsRefusedAfter standing m (request ∷ requests) recorded [] e = IsStepRefused standing m request recorded e
IsRefusedAfter standing m (request ∷ requests) recorded (answer ∷ answers) e =
    IsStep standing m request recorded answer × IsRefusedAfter (left_by standing request answer) 1 (still answer requests) recorded answers e

-- a step is refused, its number from 1
pub record IsRefused (standing : Standing) (m : ℕ) (requests : List (List ℕ)) (recorded : Recorded) (e : StepFault) : Type 0 where
  pub before : List Answer
  pub refused : IsRefusedAfter standing m requests recorded before e.fault
  pub number : e.step ≡ length before + 1

-- the answers to all steps, or the first refusal, unless memory ran out
abbrev pub IsRamp : Standing → ℕ → List (List ℕ) → Recorded → Result (Vec Planned Global) StepFault → Type 0
IsRamp standing m requests recorded (Ok answers) = ArePlans standing m requests recorded (map planned_view answers.items)
IsRamp standing m requests recorded (Err e) = e.fault ≢ WantOfMemory → IsRefused standing m requests recorded e

-- requests of the program, without where they lie in memory
abbrev pub requests_view : List (Vec ℕ Global) → List (List ℕ)
requests_view rs = map (λ v. v.items) rs
