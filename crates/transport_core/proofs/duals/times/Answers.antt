use Rattle.std.proofs.Common.{◌≡◌, ◌*◌, ◌^◌, ℤ, pos, neg_ℤ, ◌*ℤ◌, ◌≤ℤ◌, to_z, of_z, sym, ap, ◌∙◌, subst, arith, rules}
use Rattle.std.specs.Int.{w64, w128}
use Rattle.std.proofs.lemmas.Int.{to_z-of_z}
use Rattle.transport_core.proofs.Weighted.{times-low, times-high, times-positive, times-negative, product-fits}
use Rattle.transport_core.proofs.duals.times.Goals as goal

product : (c : goal.After-from-2) → to_z w128 (of_z w128 (to_z w128 (of_z w128 c.from.result) *ℤ to_z w128 (of_z w128 c.from-2.result))) ≡ (pos c.args.weight *ℤ c.args.value)
product c =
    let left : to_z w128 (of_z w128 c.from.result) ≡ pos c.args.weight = to_z-of_z w128 c.from.result (search rules) ∙ c.from.ensures in
    let right : to_z w128 (of_z w128 c.from-2.result) ≡ c.args.value = to_z-of_z w128 c.from-2.result (search rules) ∙ (c.from-2.ensures ∙ to_z-of_z w64 c.args.value c.ranges.value) in
    let whole : (to_z w128 (of_z w128 c.from.result) *ℤ to_z w128 (of_z w128 c.from-2.result)) ≡ (pos c.args.weight *ℤ c.args.value) =
    ap (λ z. z *ℤ to_z w128 (of_z w128 c.from-2.result)) left ∙ ap (λ z. pos c.args.weight *ℤ z) right in
    ap (λ z. to_z w128 (of_z w128 z)) whole ∙ to_z-of_z w128 (pos c.args.weight *ℤ c.args.value) (product-fits c.args.weight c.args.value (omega arith) c.ranges.value)

pub returns-clause-value : goal.returns-clause-value
returns-clause-value c = product c

pub returns-clause-low : goal.returns-clause-low
returns-clause-low c = subst (λ (z : ℤ). neg_ℤ (pos (c.args.weight * 2 ^ 63)) ≤ℤ z) (sym (product c)) (times-low c.args.weight c.args.value c.ranges.value)

pub returns-clause-high : goal.returns-clause-high
returns-clause-high c = subst (λ (z : ℤ). z ≤ℤ pos (c.args.weight * 2 ^ 63)) (sym (product c)) (times-high c.args.weight c.args.value c.ranges.value)

pub returns-clause-positive : goal.returns-clause-positive
returns-clause-positive c = λ up. subst (λ (z : ℤ). pos 0 ≤ℤ z) (sym (product c)) (times-positive c.args.weight c.args.value up)

pub returns-clause-negative : goal.returns-clause-negative
returns-clause-negative c = λ down. subst (λ (z : ℤ). z ≤ℤ pos 0) (sym (product c)) (times-negative c.args.weight c.args.value down)
