-- A count times a switch cost.
use Rattle.std.proofs.Common.{sym, ap, ◌∙◌, arith}
use Rattle.transport_plan.specs.Costs.{unit_of}
use Rattle.transport_plan.proofs.BoundedCost.{product_is, unit_most}
use Rattle.transport_plan.proofs.cost.unit.Goals as goal

pub returns-in-Some : goal.returns-in-Some
returns-in-Some c =
    product_is c.args.count c.from.result c.unsigned_abs.result c.in-Some.switch_cost c.from.ensures c.unsigned_abs.ensures.value (c.requires.switch_cost c.in-Some.switch_cost c.in-Some.is) ∙ ap (unit_of c.args.count) (sym c.in-Some.is)

pub overflow_mul-result : goal.overflow_mul-result
overflow_mul-result c =
    omega (
      arith,
      product_is c.args.count c.from.result c.unsigned_abs.result c.in-Some.switch_cost c.from.ensures c.unsigned_abs.ensures.value (c.requires.switch_cost c.in-Some.switch_cost c.in-Some.is) ∙ ap (unit_of c.args.count) (sym c.in-Some.is),
      unit_most c.args.count c.args.switch_cost c.requires.switch_cost,
      c.requires.count,
    )
