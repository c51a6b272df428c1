-- A loop over the names that looks for the least offer.
use Rattle.std.proofs.Common.{◌≡◌, ◌⊎◌, inr, ⊎_elim, ℕ, ◌+◌, ◌-◌, ◌*◌, ◌<◌, ◌≤◌, ◌^◌, ℤ, pos, negsuc, ◌+ℤ◌, ◌*ℤ◌, ◌≤ℤ◌, List, length, get_or, Option, Some, None, sym, ap, ◌∙◌, arith}
use Rattle.std.proofs.Math.Nat.{mul-le-mul}
use Rattle.std.proofs.lemmas.Bool.{cases_eq}
use Rattle.std.proofs.lemmas.Int.{ints}
use Rattle.std.proofs.lemmas.Option.{same_Some}
use Rattle.min_cost_flow.specs.Offered.{IsSwitchCost}
use Rattle.transport_plan.specs.Offers.{MayTake, HasSlack, IsTight, IsDualSize}

-- no name below `v` offers less, and one offers just this, unless none was looked at
pub record IsLeastBelow (costs : List (Option ℤ)) (beta : List ℤ) (count : ℕ) (least : ℤ) (v : ℕ) : Type 0 where
  pub slack : (w : ℕ) (c : ℤ) → w < v → MayTake costs w c → HasSlack beta count least w c
  pub tight : (least ≡ pos (2 ^ 63 - 1)) ⊎ ((w : ℕ) × ((c : ℤ) × (MayTake costs w c × IsTight beta count least w c)))

-- what a change costs is small
pub product-small : (count : ℕ) (c : ℤ) → count < 2 ^ 32 → IsSwitchCost c → ((pos count *ℤ c) ≤ℤ pos (2 ^ 32 * 1000000)) × (pos 0 ≤ℤ (pos count *ℤ c))
product-small count (pos b) few switch_cost =
    let top : b ≤ 1000000 = omega (arith, ints, switch_cost.high) in
    let many : count ≤ 2 ^ 32 = omega (arith, few) in
    let small : count * b ≤ 2 ^ 32 * 1000000 = mul-le-mul many top in
    (omega (arith, ints, small), omega (arith, ints))
product-small count (negsuc b) few switch_cost = absurd (omega (arith, ints, switch_cost.low))

module _ (costs : List (Option ℤ)) (beta : List ℤ) (count : ℕ) (least : ℤ) (v : ℕ) (before : IsLeastBelow costs beta count least v) where
  -- a name that may not be taken offers nothing
  pub passes : ((c : ℤ) → get_or costs v None ≡ Some c → ⊥) → IsLeastBelow costs beta count least (v + 1)
  passes none = record {
    slack = λ w c below takes.
        ⊎_elim (λ (same : w ≡ v). absurd (none c (ap (λ x. get_or costs x None) (sym same) ∙ takes.switch_cost_at))) (λ (not : w ≡ v → ⊥). before.slack w c (omega (arith, not)) takes) (cases_eq w v);
    tight = before.tight;
  }

  module _ (switch_cost new : ℤ) (takes_here : MayTake costs v switch_cost) (is : (new +ℤ get_or beta v (pos 0)) ≡ (pos count *ℤ switch_cost)) where
    same_cost : (w : ℕ) (c : ℤ) → w ≡ v → MayTake costs w c → c ≡ switch_cost
    same_cost w c same takes = same_Some c switch_cost (sym takes.switch_cost_at ∙ (ap (λ x. get_or costs x None) same ∙ takes_here.switch_cost_at))

    pub improves : new ≤ℤ least → IsLeastBelow costs beta count new (v + 1)
    improves less = record {
      slack = λ w c below takes.
          ⊎_elim
          (λ (same : w ≡ v). omega (arith, ints, is, ap (λ z. pos count *ℤ z) (same_cost w c same takes), ap (λ x. get_or beta x (pos 0)) same))
          (λ (not : w ≡ v → ⊥). omega (arith, ints, less, before.slack w c (omega (arith, not)) takes))
          (cases_eq w v);
      tight = inr (v, (switch_cost, (takes_here, is)));
    }

    pub stays : least ≤ℤ new → IsLeastBelow costs beta count least (v + 1)
    stays less = record {
      slack = λ w c below takes.
          ⊎_elim
          (λ (same : w ≡ v). omega (arith, ints, is, less, ap (λ z. pos count *ℤ z) (same_cost w c same takes), ap (λ x. get_or beta x (pos 0)) same))
          (λ (not : w ≡ v → ⊥). before.slack w c (omega (arith, not)) takes)
          (cases_eq w v);
      tight = before.tight;
    }

-- after the loop some name offered just the least
pub attained : (costs : List (Option ℤ)) (beta : List ℤ) (count : ℕ) (least : ℤ) → IsLeastBelow costs beta count least (length costs) → length beta ≡ length costs → count < 2 ^ 32
    → ((v : ℕ) (c : ℤ) → MayTake costs v c → IsSwitchCost c) → ((v : ℕ) → v < length beta → IsDualSize (get_or beta v (pos 0))) → (v : ℕ) × ((c : ℤ) × MayTake costs v c)
    → (v : ℕ) × ((c : ℤ) × (MayTake costs v c × IsTight beta count least v c))
attained costs beta count least below same few cheap small some =
    let takes = some.1.1 in
    let v = some.0 in
    let c = some.1.0 in
    ⊎_elim
    (λ (none : least ≡ pos (2 ^ 63 - 1)).
    let slack = below.slack v c takes.place takes in
    let top = product-small count c few (cheap v c takes) in
    let name = small v (omega (arith, takes.place, same)) in
    absurd (omega (arith, ints, none, slack, top.0, name.0)))
    (λ h. h)
    below.tight
