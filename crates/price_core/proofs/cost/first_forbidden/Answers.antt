use Rattle.std.proofs.Common.{sym, ◌∙◌, arith}
use Rattle.price_core.proofs.Runs.{first_found, none_found}
use Rattle.price_core.proofs.cost.first_forbidden.Goals as goal

pub returns-then-forbidden-clause-exact : goal.returns-then-forbidden-clause-exact
returns-then-forbidden-clause-exact c =
    first_found c.args.old.now c.args.new.now c.args.prices.now c.loop-point.point c.entry_name.result.now c.entry_name-in-loop-point.result.now c.loop-point.invariant.spared
    (c.entry_at-from.ensures.name ∙ c.entry_name.ensures.value) (c.entry_at-to.ensures.name ∙ c.entry_name-in-loop-point.ensures.value) (sym c.forbidden.ensures.value ∙ c.if-forbidden.true)

pub returns-clause-exact : goal.returns-clause-exact
returns-clause-exact c = none_found c.args.old.now c.args.new.now c.args.prices.now c.loop-point.point (omega (arith, c.total-total.ensures.value)) c.loop-point.invariant.spared
