-- The costs of the switches from a group's old variant are a row of the table.
use Rattle.std.proofs.Common.{◌≡◌, ℕ, ◌+◌, ◌*◌, ◌<◌, pos, None, length, to_z, of_z, sym, ◌∙◌, subst, arith}
use Rattle.std.proofs.lemmas.Int.{to_z-of_z}
use Rattle.std.specs.Int.{w64}
use Rattle.min_cost_flow.specs.Problem.{group_at}
use Rattle.min_cost_flow.proofs.Cells.{cell_in, part_at, part_length}
use Rattle.transport_plan.specs.DualPrices.{IsLeastAt}
use Rattle.transport_plan.proofs.PushedDualPrices.{least_at}
use Rattle.transport_plan.proofs.dual_prices.group_dual_price.Goals as goal

pub least_offer-requires-clause-cheap : goal.least_offer-requires-clause-cheap
least_offer-requires-clause-cheap c =
    let k : ℕ = length c.args.name_duals.now in
    let costs = c.args.costs.now in
    let variant = (group_at c.args.groups.now c.args.g).variant in
    let v_in = c.requires.groups.variant c.args.g c.requires.g in
    let size = c.requires.costs.size in
    λ v z may.
    let inside : v < k = omega (arith, may.place, part_length k k variant costs size v_in) in
    c.requires.costs.each (variant * k + v) z (cell_in k k variant v v_in inside) (sym (part_at k k variant costs size v_in v None inside) ∙ may.switch_cost_at)

pub least_offer-requires-clause-some : goal.least_offer-requires-clause-some
least_offer-requires-clause-some c =
    let k : ℕ = length c.args.name_duals.now in
    let costs = c.args.costs.now in
    let variant = (group_at c.args.groups.now c.args.g).variant in
    let v_in = c.requires.groups.variant c.args.g c.requires.g in
    let size = c.requires.costs.size in
    (variant, (pos 0, record { place = omega (arith, v_in, part_length k k variant costs size v_in); switch_cost_at = part_at k k variant costs size v_in variant None v_in ∙ c.requires.groups.stay c.args.g c.requires.g }))

pub returns : goal.returns
returns c =
    let groups = c.args.groups.now in
    let costs = c.args.costs.now in
    let name_duals = c.args.name_duals.now in
    let shown : to_z w64 (of_z w64 c.least_offer.result) ≡ c.least_offer.result = to_z-of_z w64 c.least_offer.result (record { sfits = c.least_offer.type_inv }) in
    subst (λ z. IsLeastAt groups costs (length name_duals) name_duals c.args.g z) (sym shown)
    (least_at groups costs name_duals c.args.g c.least_offer.result c.requires.groups c.requires.costs c.requires.g c.least_offer.ensures.slack c.least_offer.ensures.tight)
