-- Each name is looked at once; the least offer is attained, since there is one.
use Rattle.std.proofs.Common.{◌≡◌, ◌<◌, ◌≤◌, ◌+◌, ◌^◌, true, false, ℕ, ℤ, pos, ◌+ℤ◌, ◌*ℤ◌, ◌≤ℤ◌, inl, length, get_or, to_z, of_z, refl, sym, ap, subst, arith}
use Rattle.std.proofs.lemmas.Int.{ints, to_z-of_z}
use Rattle.std.specs.Int.{w64}
use lib.Signed.{lt_z, mag}
use Rattle.min_cost_flow.specs.Offered.{IsSwitchCost}
use Rattle.transport_plan.specs.Offers.{MayTake, IsDualSize}
use Rattle.transport_plan.proofs.LeastOffer.{IsLeastBelow, passes, improves, stays, attained}
use Rattle.transport_plan.proofs.dual_prices.least_offer.Goals as goal
use Rattle.transport_plan.proofs.dual_prices.least_offer.Goals.{in-Some+then-offered-least, in-Some+else-offered-least, in_default}

pub loop-v-init : goal.loop-v-init
loop-v-init c = record { slack = λ w d below takes. absurd (omega arith); tight = inl refl }

less : (a b : ℤ) → lt_z a b ≡ true → a ≤ℤ b
less a b h = grind (arith, ints)

not_less : (a b : ℤ) → lt_z a b ≡ false → b ≤ℤ a
not_less a b h = grind (arith, ints)

-- the offer at a place, by the switch cost and the dual price of the name
here : (count : ℕ) (switch_cost name result : ℤ) → IsSwitchCost switch_cost → IsDualSize name → (result +ℤ to_z w64 (of_z w64 name)) ≡ (pos count *ℤ to_z w64 (of_z w64 switch_cost)) → mag result < 2 ^ 63
    → (to_z w64 (of_z w64 result) +ℤ name) ≡ (pos count *ℤ switch_cost)
here count switch_cost name result cheap small value fits =
    let same_cost : to_z w64 (of_z w64 switch_cost) ≡ switch_cost = omega (arith, ints, cheap.low, cheap.high) in
    let same_name : to_z w64 (of_z w64 name) ≡ name = omega (arith, ints, small.0, small.1) in
    let same_result : to_z w64 (of_z w64 result) ≡ result = to_z-of_z w64 result (record { sfits = fits }) in
    omega (arith, ints, value, ap (λ z. pos count *ℤ z) same_cost, same_name, same_result)

pub loop-v-preserved : goal.loop-v-preserved
loop-v-preserved c =
    let costs = c.args.costs.now in
    let name_duals = c.args.name_duals.now in
    let count = c.args.count in
    let v = c.loop-v.v in
    let least : ℤ = to_z w64 c.loop-v.least-bits in
    let P : ℤ → Type 0 = λ z. IsLeastBelow costs name_duals count z (v + 1) in
    let name_small = c.requires.small v (omega (arith, c.loop-v-test.true, c.requires.same)) in
    elim c.match-costs-v.branch [
      | in-Some+then-offered-least w ↦
          let takes : MayTake costs v w.in-Some.switch_cost = record { place = c.loop-v-test.true; switch_cost_at = w.in-Some.is } in
          let new : ℤ = to_z w64 (of_z w64 w.offer-offered.result) in
          let is = here count w.in-Some.switch_cost (get_or name_duals v (pos 0)) w.offer-offered.result (c.requires.cheap v w.in-Some.switch_cost takes) name_small w.offer-offered.ensures.value w.offer-offered.type_inv in
          subst P (sym w.least-is) (improves costs name_duals count least v c.loop-v.invariant w.in-Some.switch_cost new takes is (less new least w.if-offered-least.true))
      | in-Some+else-offered-least w ↦
          let takes : MayTake costs v w.in-Some.switch_cost = record { place = c.loop-v-test.true; switch_cost_at = w.in-Some.is } in
          let new : ℤ = to_z w64 (of_z w64 w.offer-offered.result) in
          let is = here count w.in-Some.switch_cost (get_or name_duals v (pos 0)) w.offer-offered.result (c.requires.cheap v w.in-Some.switch_cost takes) name_small w.offer-offered.ensures.value w.offer-offered.type_inv in
          subst P (sym w.least-is) (stays costs name_duals count least v c.loop-v.invariant w.in-Some.switch_cost new takes is (not_less new least w.if-offered-least.false))
      | in_default w ↦ subst P (sym w.least-is) (passes costs name_duals count least v c.loop-v.invariant (λ switch_cost is. w.in_default.not-Some switch_cost is))
    ]

pub returns-clause-slack : goal.returns-clause-slack
returns-clause-slack c v switch_cost takes = c.loop-v.invariant.slack v switch_cost (omega (arith, takes.place, c.loop-v-test.false)) takes

end : (v n : ℕ) → v ≤ n → n ≤ v → v ≡ n
end v n a b = omega arith

pub returns-clause-tight : goal.returns-clause-tight
returns-clause-tight c =
    let name_duals = c.args.name_duals.now in
    let many : ℕ = length c.args.costs.now in
    let done = subst (λ v. IsLeastBelow c.args.costs.now name_duals c.args.count (to_z w64 c.loop-v.least-bits) v) (end c.loop-v.v many c.loop-v.auto.v-end c.loop-v-test.false) c.loop-v.invariant in
    attained c.args.costs.now name_duals c.args.count (to_z w64 c.loop-v.least-bits) done c.requires.same c.ranges.count.fits c.requires.cheap c.requires.small c.requires.some
