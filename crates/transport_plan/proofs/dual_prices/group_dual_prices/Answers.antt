-- Each turn pushes one more dual price.
use Rattle.std.proofs.Common.{◌≡◌, ℕ, ◌+◌, ◌<◌, ℤ, pos, List, length, get_or, to_z, of_z, sym, subst}
use Rattle.std.proofs.lemmas.Int.{to_z-of_z}
use Rattle.std.specs.Int.{w64}
use Rattle.transport_plan.specs.DualPrices.{IsLeastAt}
use Rattle.transport_plan.proofs.PushedDualPrices.{pushed}
use Rattle.transport_plan.proofs.dual_prices.group_dual_prices.Goals as goal

pub loop-g-preserved : goal.loop-g-preserved
loop-g-preserved c =
    let P : ℕ → ℤ → Type 0 = λ g z. IsLeastAt c.args.groups.now c.args.costs.now (length c.args.name_duals.now) c.args.name_duals.now g z in
    let g = c.loop-g.g in
    let shown : to_z w64 (of_z w64 c.group_dual_price.result) ≡ c.group_dual_price.result = to_z-of_z w64 c.group_dual_price.result (record { sfits = c.group_dual_price.type_inv }) in
    let more = subst (λ (xs : List ℤ). (length xs ≡ g + 1) × ((i : ℕ) → i < g + 1 → P i (get_or xs i (pos 0)))) (sym c.in_ok-push.ensures.items)
    (pushed P c.loop-g.duals.items (to_z w64 (of_z w64 c.group_dual_price.result)) g c.loop-g.invariant.size c.loop-g.invariant.each (subst (λ z. P g z) (sym shown) c.group_dual_price.ensures)) in
    record { size = more.0; each = more.1 }
