-- A group enters by what it offers each name.
use Rattle.std.proofs.Common.{◌≡◌, ℕ, ◌+◌, ◌*◌, ◌<◌, ℤ, Option, Some, None, List, length, get_or, to_z, of_z, refl, sym, ◌∙◌, subst, arith}
use Rattle.std.proofs.lemmas.Int.{ints}
use Rattle.std.specs.Int.{w64}
use Rattle.min_cost_flow.specs.Offered.{IsSwitchCost, Offers}
use Rattle.min_cost_flow.specs.Problem.{AreSwitchCosts, group_at, switch_cost_at, may_take, cost_at}
use Rattle.min_cost_flow.proofs.Cells.{cell_in}
use Rattle.min_cost_flow.proofs.Cells.{part_length, part_at}
use Rattle.min_cost_flow.proofs.Entering.{widened}
use Rattle.min_cost_flow.proofs.residual.take_moves.Goals as goal

shown : (z : ℤ) → IsSwitchCost z → to_z w64 (of_z w64 z) ≡ z
shown z p = omega (arith, ints, p.low, p.high)

switch_cost_in : (names : ℕ) (costs : List (Option ℤ)) → AreSwitchCosts names costs → (variant w : ℕ) (z : ℤ) → variant < names → w < names → switch_cost_at costs names variant w ≡ Some z → IsSwitchCost z
switch_cost_in names costs are variant w z variant_in w_in is = are.each (variant * names + w) z (cell_in names names variant w variant_in w_in) is

pub offer-requires-clause-here : goal.offer-requires-clause-here
offer-requires-clause-here c =
    let p = switch_cost_in (length c.args.row.now) c.args.costs.now c.requires.supplies.priced (group_at c.args.groups.now c.args.group).variant c.args.name c.in-Some.here (c.requires.supplies.grouped.variant c.args.group c.requires.group) c.requires.name c.in-Some.is in
    subst IsSwitchCost (sym (shown c.in-Some.here p)) p

pub offer-requires-clause-costs : goal.offer-requires-clause-costs
offer-requires-clause-costs c =
    let n : ℕ = length c.args.row.now in
    let variant = (group_at c.args.groups.now c.args.group).variant in
    let variant_in = c.requires.supplies.grouped.variant c.args.group c.requires.group in
    λ w z w_in is.
    let inside : w < n = omega (arith, w_in, part_length n n variant c.args.costs.now c.requires.supplies.priced.size variant_in) in
    switch_cost_in n c.args.costs.now c.requires.supplies.priced variant w z variant_in inside (sym (part_at n n variant c.args.costs.now c.requires.supplies.priced.size variant_in w None inside) ∙ is)

pub returns-in-Some : goal.returns-in-Some
returns-in-Some c =
    let n : ℕ = length c.args.row.now in
    let g = c.args.group in
    let costs = c.args.costs.now in
    let groups = c.args.groups.now in
    let variant = (group_at groups g).variant in
    let variant_in = c.requires.supplies.grouped.variant g c.requires.group in
    let size = c.requires.supplies.priced.size in
    let p = switch_cost_in n costs c.requires.supplies.priced variant c.args.name c.in-Some.here variant_in c.requires.name c.in-Some.is in
    widened n g c.args.name (group_at groups g).count c.in-Some.here (switch_cost_at costs n variant) (may_take groups costs n) (cost_at groups costs n) (λ w. get_or c.args.row.now w None) (λ w. get_or c.offer.new.row w None)
    (λ w. refl) (λ w. refl) c.in-Some.is p (λ w z w_in is. switch_cost_in n costs c.requires.supplies.priced variant w z variant_in w_in is)
    (λ w w_in.
    subst (λ z. Offers z g (group_at groups g).count (switch_cost_at costs n variant w) (get_or c.args.row.now w None) (get_or c.offer.new.row w None)) (shown c.in-Some.here p)
    (subst (λ o. Offers (to_z w64 (of_z w64 c.in-Some.here)) g (group_at groups g).count o (get_or c.args.row.now w None) (get_or c.offer.new.row w None)) (part_at n n variant costs size variant_in w None w_in)
    (c.offer.ensures.each w (omega (arith, w_in, part_length n n variant costs size variant_in)))))
