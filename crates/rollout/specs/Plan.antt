-- What is planned of a rollout request, on a book and on a tally.
use Rattle.std.specs.Prelude.{◌≡◌, ◌≢◌, ℕ, List, Result, Ok, Err}
use Rattle.book_core.specs.Book.{Inputs}
use Rattle.transport_core.specs.Deficient.{IsDeficient}
use Rattle.transport_core.specs.declared.certificate.CutKind.TheVariants.{Over, Under}
use Rattle.plan_text.specs.Answer.{Answer, emit, none_exists, planned_view}
use Rattle.plan_text.specs.declared.planned.Planned.{Planned}
use Rattle.rollout.specs.Lawful.{Problem, IsLawful}
use Rattle.rollout.specs.CheckedTally.{AreTallied, TallyProblem, with_inputs}
use Rattle.rollout.specs.Verified.{Proves, Shows}
use Rattle.rollout.specs.declared.fault.RolloutFault.{RolloutFault}
use Rattle.rollout.specs.declared.fault.RolloutFault.TheVariants.{WantOfMemory}

-- a set is told as under its low limits only where no set is over its high ones
abbrev pub IsUnderLast : Problem → Answer → Type 0
IsUnderLast p (emit rule c) = Unit {0}
IsUnderLast p (none_exists Over names) = Unit {0}
IsUnderLast p (none_exists Under names) = (others : List (List ℕ)) → ¬ (IsDeficient Over p.old p.limits p.pricing others)

-- an answer to what is asked
pub record IsPlan (p : Problem) (answer : Answer) : Type 0 where
  -- the laws of weak duality and of deficient sets hold of what was asked
  pub lawful : IsLawful p
  -- the rule fits and its certificate proves its cost, or the set is deficient by its kind
  pub proves : Proves p answer
  -- so the rule costs the recorded inputs the least of all that fit, or no rule fits
  pub shows : Shows p answer
  pub under_last : IsUnderLast p answer

-- What is planned: the refusal of the request where it is not lawful, and else an answer. Want of memory may come of either.
abbrev pub IsPlanned : Result Problem RolloutFault → Result Planned RolloutFault → Type 0
IsPlanned (Err f) (Ok planned) = ⊥
IsPlanned (Err f) (Err e) = e ≢ WantOfMemory → e ≡ f
IsPlanned (Ok p) (Ok planned) = IsPlan p (planned_view planned)
IsPlanned (Ok p) (Err e) = e ≡ WantOfMemory

-- What is planned on a tally: the refusal of the request where it is not lawful, and else an answer for all inputs of which so
-- many fall on each point. Want of memory may come of either.
abbrev pub IsTallyPlanned : Result TallyProblem RolloutFault → Result Planned RolloutFault → Type 0
IsTallyPlanned (Err f) (Ok planned) = ⊥
IsTallyPlanned (Err f) (Err e) = e ≢ WantOfMemory → e ≡ f
IsTallyPlanned (Ok p) (Ok planned) = (inputs : Inputs) → AreTallied p inputs → IsPlan (with_inputs p inputs) (planned_view planned)
IsTallyPlanned (Ok p) (Err e) = e ≡ WantOfMemory
