-- What was planned is lawful.
use Rattle.std.proofs.Common.{◌≡◌, ◌≢◌, Result, Ok, Err, subst}
use Rattle.plan_text.specs.declared.planned.Planned.{Planned}
use Rattle.rollout.specs.Plan.{IsTallyPlanned}
use Rattle.rollout.specs.CheckedTally.{TallyProblem}
use Rattle.rollout.specs.declared.fault.RolloutFault.{RolloutFault}
use Rattle.rollout.specs.declared.fault.RolloutFault.TheVariants.{WantOfMemory}

-- a request that is refused has no plan
pub not_refused : (r : Result TallyProblem RolloutFault) (f : RolloutFault) (planned : Planned) → (f ≢ WantOfMemory → r ≡ Err f) → f ≢ WantOfMemory → IsTallyPlanned r (Ok planned) → ⊥
not_refused r f planned is other plan = subst (λ (x : Result TallyProblem RolloutFault). IsTallyPlanned x (Ok planned)) (is other) plan
