use Rattle.flag_defs.specs.Flags.{flags_view}
use Rattle.product_laws.specs.Recorded.{told_to}
use Rattle.product_laws.proofs.Holding.{plan_holds}
use Rattle.product_laws.proofs.planning.plan_sealed.Goals as goal

pub returns-in-Ok-plan_over-clause-holds : goal.returns-in-Ok-plan_over-clause-holds
returns-in-Ok-plan_over-clause-holds g c =
    plan_holds (told_to c.args.seats.items) 1 (flags_view c.args.flags.now) c.args.request.now c.in-Ok.book c.in-Ok-plan_over.planned c.in-Ok-plan_over.ensures.lawful c.in-Ok.ensures.told.told.union c.in-Ok-plan_over.ensures.exact

pub returns-in-Ok-plan_over-clause-exact : goal.returns-in-Ok-plan_over-clause-exact
returns-in-Ok-plan_over-clause-exact g c =
    record { book = c.in-Ok.book; sealed = c.in-Ok.ensures.sealed; told = c.in-Ok.ensures.told; plan = c.in-Ok-plan_over.ensures.exact }
