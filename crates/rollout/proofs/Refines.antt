-- Entries of a total that is planned on make a rule, however they are refined.
use Rattle.std.proofs.Common.{◌≡◌, ◌≢◌, ℕ, ◌*◌, ◌<◌, ◌≤◌, Result, Ok, Err, ap, arith}
use Rattle.std.proofs.Math.Nat.{mul-pos}
use Rattle.bucket_core.specs.Reading.{rule_of_entries}
use Rattle.bucket_core.specs.Rule.{Entries, total_weight, refinement}
use Rattle.bucket_core.specs.declared.fault.RuleFault.{RuleFault}
use Rattle.bucket_core.specs.declared.fault.RuleFault.TheVariants as rule
use Rattle.bucket_core.proofs.Refined.{total_weight-refinement}
use Rattle.rollout.specs.Fault.{of_rule}
use Rattle.rollout.specs.Lawful.{max_planned}
use Rattle.rollout.specs.declared.fault.RolloutFault.TheVariants.{WantOfMemory}
use Rattle.plan_text.proofs.Orders.{rule_of-total}

pub refinement_made : (m : ℕ) (r : Entries) → 0 < total_weight r → 0 < m → total_weight r * m ≤ max_planned → rule_of_entries (refinement m r) ≡ Ok (refinement m r)
refinement_made m r some positive small =
    let total = total_weight-refinement m r in
    let more = mul-pos some positive in
    rule_of-total (refinement m r) (record { some = omega (arith, total, more); small = omega (arith, total, small) })

-- it is refused for want of memory alone
pub refinement_refused : (m : ℕ) (r : Entries) (e : RuleFault) (wanted : Result Entries RuleFault) → wanted ≡ rule_of_entries (refinement m r) → 0 < total_weight r → 0 < m → total_weight r * m ≤ max_planned
    → (e ≢ rule.WantOfMemory → wanted ≡ Err e) → of_rule e ≢ WantOfMemory → ⊥
refinement_refused m r e wanted is some positive small told other =
    let made = refinement_made m r some positive small in
    let refused = told (λ want. other (ap of_rule want)) in
    cc
