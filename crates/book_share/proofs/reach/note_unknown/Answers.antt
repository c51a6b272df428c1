use Rattle.std.proofs.Common.{string_bytes, ap, ◌∙◌}
use Rattle.std.specs.Arc.{arc_value}
use Rattle.std.proofs.lemmas.Result.{IfOk-weaker}
use Rattle.flag_defs.specs.Flags.{flags_view}
use Rattle.site_pages.specs.Keyed.{targeting_of}
use Rattle.book_share.specs.Driven.{Notes}
use Rattle.book_share.proofs.Reaching.{one_as, page_named}
use Rattle.book_share.proofs.reach.note_unknown.Goals as goal

pub returns-clause-noted : goal.returns-clause-noted
returns-clause-noted g c =
    let key = c.args.sites.now.key.now in
    let t = targeting_of (flags_view c.args.sites.now.flags.now) key in
    let r = c.args.reach.now in
    IfOk-weaker c.note_one.result _ _
    (λ _ notes. one_as (λ more. Notes more c.args.seat.now c.args.refused.now c.note_one.new.seat c.note_one.new.refused) key t r.site c.in_ok-page.page (string_bytes (arc_value r.input)) c.as_str.result.now
    (page_named key _ t r.site c.in_ok-page.page c.targeting_of-targeting.ensures c.in_ok-page.ensures) (c.as_str.ensures.value ∙ ap string_bytes c.deref.ensures) notes)
    c.note_one.ensures.noted
