use Rattle.std.proofs.Common.{ap, get_or, ◌∙◌}
use Rattle.book_share.specs.declared.ask.Ask.{Ask}
use Rattle.flag_defs.specs.Floats.{marked_view}
use Rattle.flag_resolve.specs.Floats.{kind_asked}
use Rattle.flag_text.specs.View.{view}
use Rattle.flagops_drive.proofs.Wanted.{wants_more}
use Rattle.flagops_drive.proofs.wants.want_spellings.Goals as goal

pub loop-ask-preserved : goal.loop-ask-preserved
loop-ask-preserved c =
    let a : Ask = get_or c.loop-ask.ask-items c.loop-ask.ask-index c.ask-item.result in
    wants_more (marked_view c.args.flags.now) c.loop-ask.ask-items c.deref_mut-ask-items.result.now c.loop-ask.ask-index c.ask-item.result _ c.loop-ask-test.true c.loop-ask.invariant.1
    (ap (λ w. record { key = a.key.now; want = w; default = view a.default.now; context = view a.context.now; moment = a.moment }) (c.kind_asked-ask.ensures ∙ ap (λ f. kind_asked f a.want) c.floats_in.ensures))
    c.loop-ask.invariant.0
