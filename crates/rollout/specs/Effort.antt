-- What the planner spends on what is asked.
use Rattle.std.specs.Prelude.{◌≡◌, ℕ, ◌+◌, ◌*◌, ◌≤◌, ◌⊎◌, List, length, Result, Ok, Err}
use Rattle.bucket_core.specs.Rule.{total_weight}
use Rattle.rollout.specs.Lawful.{Problem}
use Rattle.rollout.specs.declared.fault.RolloutFault.{RolloutFault}
use Rattle.min_cost_flow.specs.Spent.{Spent}
use Rattle.transport_core.specs.Groups.{GroupKey, AreSizes}

-- At most two augmentations for each point, and so many settlings as two searches for each point, and two more, make that settle
-- each group and each name once.
pub record IsBounded (p : Problem) (old new : Spent) : Type 0 where
  pub groups : List (GroupKey × ℕ)
  pub are : AreSizes p.old p.inputs groups
  pub augmentations : new.augmentations ≤ old.augmentations + 2 * total_weight p.old
  pub settlings : new.settlings ≤ old.settlings + (2 * total_weight p.old + 2) * (length groups + length p.limits)

-- one solving of what is asked, or nothing where memory ran out before
abbrev pub SpendsOn : Problem → Spent → Spent → Type 0
SpendsOn p old new = (new ≡ old) ⊎ IsBounded p old new

-- nothing where the request is refused
abbrev pub Spends : Result Problem RolloutFault → Spent → Spent → Type 0
Spends (Err f) old new = new ≡ old
Spends (Ok p) old new = SpendsOn p old new
