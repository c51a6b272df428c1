-- What is spent on an instance is spent on what is asked.
use Rattle.std.proofs.Common.{◌≡◌, ◌+◌, ◌*◌, ◌≤◌, length, inl, Result, Ok, Err, refl, subst}
use Rattle.bucket_core.specs.Rule.{total_weight}
use Rattle.price_core.specs.Limits.{Limits}
use Rattle.rollout.specs.Effort.{IsBounded, SpendsOn, Spends}
use Rattle.rollout.specs.Lawful.{Problem}
use Rattle.rollout.specs.declared.fault.RolloutFault.{RolloutFault}
use Rattle.min_cost_flow.specs.Spent.{Spent}
use Rattle.transport_core.specs.Groups.{AreSizes}
use Rattle.transport_core.specs.Instance.{TransportProblem}
use Rattle.transport_core.specs.Rows.{whole_amount}
use Rattle.transport_core.proofs.Plans.{whole-groups}

pub bounded : (p : Problem) (t : TransportProblem) (old new : Spent) → AreSizes p.old p.inputs t.groups → t.limits ≡ p.limits → new.augmentations ≤ old.augmentations + 2 * whole_amount t.groups
    → new.settlings ≤ old.settlings + (2 * whole_amount t.groups + 2) * (length t.groups + length t.limits) → IsBounded p old new
bounded p t old new sizes limits augmentations settlings =
    let all = whole-groups p.old p.inputs t.groups sizes in
    record {
      groups = t.groups;
      are = sizes;
      augmentations = subst (λ n. new.augmentations ≤ old.augmentations + 2 * n) all augmentations;
      settlings =
          subst (λ (ls : Limits). new.settlings ≤ old.settlings + (2 * total_weight p.old + 2) * (length t.groups + length ls)) limits
          (subst (λ n. new.settlings ≤ old.settlings + (2 * n + 2) * (length t.groups + length t.limits)) all settlings);
    }

-- nothing was spent
pub spends_none : (r : Result Problem RolloutFault) (spent : Spent) → Spends r spent spent
spends_none (Err f) spent = refl
spends_none (Ok p) spent = inl refl

pub spends_of : (r : Result Problem RolloutFault) (p : Problem) (old new : Spent) → r ≡ Ok p → SpendsOn p old new → Spends r old new
spends_of r p old new is h = rw is h
