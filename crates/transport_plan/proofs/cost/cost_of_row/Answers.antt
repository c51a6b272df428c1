-- Each turn adds what one name's points pay.
use Rattle.std.proofs.Common.{◌≡◌, ℕ, ◌+◌, ◌*◌, rules, sym, ap, ◌∙◌, arith}
use Rattle.min_cost_flow.specs.Problem.{group_at, switch_cost_at}
use Rattle.min_cost_flow.proofs.Cells.{cell_in}
use Rattle.min_cost_flow.specs.Flow.{cell_at}
use Rattle.transport_plan.specs.Costs.{row_cost, unit_of}
use Rattle.transport_plan.proofs.BoundedCost.{inputs_few, row_more, row_small}
use Rattle.transport_plan.proofs.cost.cost_of_row.Goals as goal

pub bounds-costs-variant : goal.bounds-costs-variant
bounds-costs-variant c = omega (arith, c.requires.supplies.priced.size, cell_in c.args.names c.args.names (group_at c.args.groups.now c.args.g).variant c.loop-v.v (c.requires.supplies.grouped.variant c.args.g c.requires.g) c.loop-v-test.true)

pub unit-requires-clause-switch_cost : goal.unit-requires-clause-switch_cost
unit-requires-clause-switch_cost c =
    λ z is. c.requires.supplies.priced.each ((group_at c.args.groups.now c.args.g).variant * c.args.names + c.loop-v.v) z (cell_in c.args.names c.args.names (group_at c.args.groups.now c.args.g).variant c.loop-v.v (c.requires.supplies.grouped.variant c.args.g c.requires.g) c.loop-v-test.true) is

added : (cost cell r u v w s : ℕ) → r ≡ cell → u ≡ w → cost ≡ s → cost + r * u ≡ s + cell * w
added cost cell r u v w s r_is u_is cost_is = ap (λ x. x + r * u) cost_is ∙ (ap (λ x. s + x * u) r_is ∙ ap (λ x. s + cell * x) u_is)

pub loop-v-preserved : goal.loop-v-preserved
loop-v-preserved c =
    let groups = c.args.groups.now in
    let costs = c.args.costs.now in
    let placed = c.args.placed.now in
    let k = c.args.names in
    let g = c.args.g in
    let v = c.loop-v.v in
    added c.loop-v.cost (cell_at placed k g v) c.from.result c.unit.result v (unit_of (group_at groups g).count (switch_cost_at costs k (group_at groups g).variant v)) (row_cost groups costs placed k g v) c.from.ensures c.unit.ensures c.loop-v.invariant
    ∙ sym (row_more groups costs placed k c.requires.supplies.grouped c.requires.supplies.priced g c.requires.g c.requires.spent v)

-- what a name's points pay is a part of what those of all names pay
paid : (cell r u w : ℕ) → r ≡ cell → u ≡ w → r * u ≡ cell * w
paid cell r u w r_is u_is = ap (λ x. x * u) r_is ∙ ap (λ x. cell * x) u_is

pub overflow_mul-cost : goal.overflow_mul-cost
overflow_mul-cost c =
    let groups = c.args.groups.now in
    let costs = c.args.costs.now in
    let placed = c.args.placed.now in
    let k = c.args.names in
    let g = c.args.g in
    let v = c.loop-v.v in
    omega (
      arith,
      paid (cell_at placed k g v) c.from.result c.unit.result (unit_of (group_at groups g).count (switch_cost_at costs k (group_at groups g).variant v)) c.from.ensures c.unit.ensures,
      row_more groups costs placed k c.requires.supplies.grouped c.requires.supplies.priced g c.requires.g c.requires.spent v,
      row_small groups costs placed k c.requires.supplies.grouped c.requires.supplies.priced g c.requires.g c.requires.spent (v + 1) (omega (arith, c.loop-v-test.true)),
      inputs_few groups costs placed k c.requires.supplies.grouped c.requires.supplies.priced g c.requires.g,
    )

pub overflow_add-cost : goal.overflow_add-cost
overflow_add-cost c =
    let groups = c.args.groups.now in
    let costs = c.args.costs.now in
    let placed = c.args.placed.now in
    let k = c.args.names in
    let g = c.args.g in
    let v = c.loop-v.v in
    omega (
      arith,
      c.loop-v.invariant,
      paid (cell_at placed k g v) c.from.result c.unit.result (unit_of (group_at groups g).count (switch_cost_at costs k (group_at groups g).variant v)) c.from.ensures c.unit.ensures,
      row_more groups costs placed k c.requires.supplies.grouped c.requires.supplies.priced g c.requires.g c.requires.spent v,
      row_small groups costs placed k c.requires.supplies.grouped c.requires.supplies.priced g c.requires.g c.requires.spent (v + 1) (omega (arith, c.loop-v-test.true)),
      inputs_few groups costs placed k c.requires.supplies.grouped c.requires.supplies.priced g c.requires.g,
    )

pub returns : goal.returns
returns c = record {
  value = search rules;
  small =
      omega (
        arith,
        c.loop-v.invariant,
        row_small c.args.groups.now c.args.costs.now c.args.placed.now c.args.names c.requires.supplies.grouped c.requires.supplies.priced c.args.g c.requires.g c.requires.spent c.loop-v.v c.loop-v.auto.v-end,
      );
}
