-- When an answer to a rollout request is right, and what is told where it is not.
use Rattle.std.specs.Prelude.{◌≡◌, ◌≢◌, true, Result, Ok, Err}
use Rattle.bucket_core.specs.Rule.{Entries, total_weight}
use Rattle.transport_core.specs.Certificate.{IsCertified}
use Rattle.transport_core.specs.Deficient.{IsDeficient}
use Rattle.transport_core.specs.Fits.{Fits, IsLeast}
use Rattle.transport_core.specs.Refusals.{Refuses}
use Rattle.transport_core.specs.declared.fault.CheckFault.{CheckFault}
use Rattle.transport_core.specs.declared.fault.CheckFault.TheVariants as fault
use Rattle.plan_text.specs.Answer.{Answer, emit, none_exists}
use Rattle.rollout.specs.Lawful.{Problem, IsLawful}
use Rattle.rollout.specs.declared.fault.RolloutFault.{RolloutFault}
use Rattle.rollout.specs.declared.fault.RolloutFault.TheVariants.{WantOfMemory}
use Rattle.rollout.specs.declared.refining.Refining.{Refining}
use Rattle.rollout.specs.declared.refining.Refining.TheVariants.{Times, ToTotal}
use Rattle.rollout.specs.VerifyFault.{is_want}
use Rattle.rollout.specs.declared.verify_fault.VerifyFault.{VerifyFault}
use Rattle.rollout.specs.declared.verify_fault.VerifyFault.TheVariants.{Request, Check}

-- A rule is checked against the site's rule refined to its total, a set of names against the site's rule itself.
abbrev pub refining_for : Answer → Refining
refining_for (emit rule c) = ToTotal (total_weight rule)
refining_for (none_exists kind names) = Times 1

-- the rule fits and its certificate proves its cost, or the set is deficient by its kind
abbrev pub Proves : Problem → Answer → Type 0
Proves p (emit rule c) = IsCertified p.old rule p.limits p.pricing p.inputs c
Proves p (none_exists kind names) = IsDeficient kind p.old p.limits p.pricing names

-- what then holds: the rule costs the inputs the least of all rules that fit, or no rule fits
abbrev pub Shows : Problem → Answer → Type 0
Shows p (emit rule c) = IsLeast p.old rule p.limits p.pricing p.inputs
Shows p (none_exists kind names) = (rule : Entries) → Fits p.old rule p.limits p.pricing → ⊥

-- the refusal of a check is the first in its order
abbrev pub IsFirst : Problem → Answer → CheckFault → Type 0
IsFirst p (emit rule c) e = Refuses p.old rule p.limits p.pricing p.inputs c e
IsFirst p (none_exists kind names) e = e ≢ fault.WantOfMemory → e ≡ fault.NotDeficient

-- the answer is refused so, and unless memory ran out it is not right
pub record Denies (p : Problem) (answer : Answer) (e : CheckFault) : Type 0 where
  pub first : IsFirst p answer e
  pub wrong : e ≢ fault.WantOfMemory → ¬ (Proves p answer)

-- What is told of an answer: the refusal of the request where it is not lawful; else that the answer is right, or the check's refusal. Want of memory may come of either.
abbrev pub IsOutcome : Result Problem RolloutFault → Answer → Result (Unit {0}) VerifyFault → Type 0
IsOutcome (Err f) answer (Ok u) = ⊥
IsOutcome (Err f) answer (Err (Request e)) = e ≢ WantOfMemory → e ≡ f
IsOutcome (Err f) answer (Err (Check e)) = ⊥
IsOutcome (Ok p) answer (Ok u) = Proves p answer
IsOutcome (Ok p) answer (Err (Request e)) = e ≡ WantOfMemory
IsOutcome (Ok p) answer (Err (Check e)) = Denies p answer e

-- what verify tells of an answer
abbrev pub Told : Type 0
Told = Result (Unit {0}) VerifyFault

-- valid, unless memory ran out
abbrev pub IsValid : Told → Type 0
IsValid (Ok u) = Unit {0}
IsValid (Err fault) = is_want fault ≡ true

-- the request is lawful, so that the laws of weak duality and of deficient sets hold of it, and so does what an accepted answer shows
abbrev pub IsShown : Result Problem RolloutFault → Answer → Type 0
IsShown (Ok p) answer = IsLawful p × Shows p answer
IsShown (Err f) answer = ⊥
