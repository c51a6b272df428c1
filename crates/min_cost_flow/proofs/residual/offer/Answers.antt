-- Each turn of the loop offers one more arc.
use Rattle.std.proofs.Common.{◌≡◌, ℕ, ℤ, pos, ◌-ℤ◌, ◌*ℤ◌, ◌≤ℤ◌, to_z, of_z, arith, rules, refl, sym, ap, ◌∙◌}
use Rattle.std.proofs.lemmas.Int.{ints, to_z-of_z}
use Rattle.std.proofs.lemmas.Option.{same_Some}
use Rattle.std.specs.Int.{w64}
use mir.Val.{SFits}
use Rattle.min_cost_flow.specs.Offered.{IsSwitchCost}
use Rattle.min_cost_flow.proofs.Offering.{keeps, takes}
use Rattle.min_cost_flow.proofs.residual.offer.Goals as goal
use Rattle.min_cost_flow.proofs.residual.offer.Goals.{in-Some+then-is_cheaper, in-Some+else-is_cheaper, in_default}

cost_is : (count : ℕ) (switch_cost here result : ℤ) → IsSwitchCost switch_cost → IsSwitchCost here → SFits w64 result → result ≡ pos count *ℤ to_z w64 (of_z w64 (to_z w64 (of_z w64 switch_cost) -ℤ to_z w64 (of_z w64 here)))
    → to_z w64 (of_z w64 result) ≡ pos count *ℤ (switch_cost -ℤ to_z w64 (of_z w64 here))
cost_is count switch_cost here result p h fits is =
    let rise : to_z w64 (of_z w64 (to_z w64 (of_z w64 switch_cost) -ℤ to_z w64 (of_z w64 here))) ≡ (switch_cost -ℤ to_z w64 (of_z w64 here)) = omega (arith, ints, p.low, p.high, h.low, h.high) in
    to_z-of_z w64 result fits ∙ (is ∙ ap (λ z. pos count *ℤ z) rise)

covered : (count : ℕ) (switch_cost to here cost known : ℤ) → switch_cost ≡ to → cost ≡ pos count *ℤ (switch_cost -ℤ here) → known ≤ℤ cost → known ≤ℤ (pos count *ℤ (to -ℤ here))
covered count switch_cost to here cost known same is less = omega (arith, ints, is, less, ap (λ z. pos count *ℤ (z -ℤ here)) same)

pub loop-w-preserved : goal.loop-w-preserved
loop-w-preserved c =
    let here : ℤ = to_z w64 (of_z w64 c.args.here) in
    let v = c.loop-w.w in
    let keep = keeps here c.args.group c.args.count c.args.costs.now c.args.row.now c.loop-w.row c.match-costs-w.row v c.loop-w-test.true c.loop-w.invariant in
    let take = takes here c.args.group c.args.count c.args.costs.now c.args.row.now c.loop-w.row c.match-costs-w.row v c.loop-w-test.true c.loop-w.invariant in
    elim c.match-costs-w.branch [
      | in-Some+then-is_cheaper w ↦
          take w.in-Some.switch_cost _ w.row-is w.in-Some.is refl
          (cost_is c.args.count w.in-Some.switch_cost c.args.here w.times-cost.result (c.requires.costs v w.in-Some.switch_cost c.loop-w-test.true w.in-Some.is) c.requires.here (search rules) w.times-cost.ensures)
          w.if-is_cheaper.ensures
      | in-Some+else-is_cheaper w ↦
          keep w.row-is (λ to allowed.
          let k = w.if-is_cheaper.ensures in (
            k.0,
            k.1,
            covered c.args.count w.in-Some.switch_cost to here _ k.0.cost (same_Some w.in-Some.switch_cost to (sym w.in-Some.is ∙ allowed))
                (cost_is c.args.count w.in-Some.switch_cost c.args.here w.times-cost.result (c.requires.costs v w.in-Some.switch_cost c.loop-w-test.true w.in-Some.is) c.requires.here (search rules) w.times-cost.ensures) k.2,
          ))
      | in_default w ↦ keep w.row-is (λ to allowed. absurd (w.in_default.not-Some to allowed))
    ]
