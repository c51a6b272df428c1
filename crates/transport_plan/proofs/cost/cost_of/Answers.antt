-- Each turn adds what one group's points pay.
use Rattle.std.proofs.Common.{◌+◌, arith}
use Rattle.transport_plan.proofs.BoundedCost.{all_more, all_small}
use Rattle.transport_plan.proofs.cost.cost_of.Goals as goal

pub overflow_add-cost : goal.overflow_add-cost
overflow_add-cost c =
    omega (
      arith,
      c.loop-g.invariant,
      c.cost_of_row-cost.ensures.value,
      all_more c.args.groups.now c.args.costs.now c.args.placed.now c.args.names c.requires.groups c.requires.costs c.requires.spent c.loop-g.g,
      all_small c.args.groups.now c.args.costs.now c.args.placed.now c.args.names c.requires.groups c.requires.costs c.requires.spent (c.loop-g.g + 1) (omega (arith, c.loop-g-test.true)),
    )
