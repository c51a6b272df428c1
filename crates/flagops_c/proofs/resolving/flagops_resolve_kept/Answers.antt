use Rattle.std.proofs.Common.{Some, ap, ◌∙◌}
use Rattle.library_seat.specs.Early.{early_refusal}
use Rattle.flagops_c.proofs.Called.{early_of_kept}
use Rattle.flagops_c.proofs.resolving.flagops_resolve_kept.Goals as goal

pub returns-clause-early : goal.returns-clause-early
returns-clause-early c =
    early_of_kept c.args.handle.now.seat c.deref_mut.result.now
    (early_refusal (record { key = c.args.key.now; kind = c.args.kind; default = c.args.default.now; moment = c.args.moment }))
    c.number_of.result c.resolve_kept-answered.result (ap Some c.deref_mut.ensures.value ∙ c.in-Some.ensures.taken) c.number_of.ensures c.resolve_kept-answered.ensures.early
