use Rattle.std.proofs.Common.{◌≡◌, ◌<◌, length, get_or, string_bytes, ap, ◌∙◌, arith}
use Rattle.std.specs.Arc.{arc_value}
use Rattle.std.proofs.lemmas.Result.{IfOk-weaker}
use Rattle.flag_defs.specs.Flags.{flags_view}
use Rattle.site_pages.specs.Keyed.{targeting_of}
use Rattle.book_share.specs.Driven.{Notes}
use Rattle.book_share.proofs.Made.{known_page}
use Rattle.book_share.proofs.Reaching.{one_as}
use Rattle.book_share.proofs.reach.note_at.Goals as goal

pub returns-in-Some-clause-noted : goal.returns-in-Some-clause-noted
returns-in-Some-clause-noted g c =
    let sites = c.args.sites.now in
    let flags = flags_view sites.flags.now in
    let r = c.args.reach.now in
    let within : r.site < length sites.pages.now = grind arith in
    let at : c.in-Some.page.now ≡ get_or sites.pages.now r.site c.in-Some.page.now = grind arith in
    let page = known_page flags sites.key.now sites.pages.now r.site c.in-Some.page.now sites.known within at in
    IfOk-weaker c.note_one.result _ _
    (λ _ notes. one_as (λ more. Notes more c.args.seat.now c.args.refused.now c.note_one.new.seat c.note_one.new.refused) sites.key.now (targeting_of flags sites.key.now) r.site c.in-Some.page.now (string_bytes (arc_value r.input)) c.as_str.result.now
    page (c.as_str.ensures.value ∙ ap string_bytes c.deref.ensures) notes)
    c.note_one.ensures.noted
