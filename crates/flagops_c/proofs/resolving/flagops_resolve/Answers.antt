use Rattle.library_seat.specs.Early.{early_refusal}
use Rattle.flagops_c.proofs.Called.{early_of_held}
use Rattle.flagops_c.proofs.resolving.flagops_resolve.Goals as goal

pub returns-clause-early : goal.returns-clause-early
returns-clause-early c =
    early_of_held c.args.handle.now.seat (early_refusal (record { key = c.args.key.now; kind = c.args.kind; default = c.args.default.now; moment = c.args.moment }))
    c.number_of.result c.resolve-answered.result c.number_of.ensures c.resolve-answered.ensures.early
