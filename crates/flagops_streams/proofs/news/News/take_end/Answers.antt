use Rattle.std.proofs.Common.{◌∙◌, Some, ap, is_some, sym}
use Rattle.std.proofs.lemmas.Bool.{true≢false}
use Rattle.flagops_streams.proofs.Ends.{ended, stands}
use Rattle.flagops_streams.proofs.news.News.take_end.Goals as goal

-- at the place of the first that ended there is an end
pub returns-in_err-taken-clause-first : goal.returns-in_err-taken-clause-first
returns-in_err-taken-clause-first g c =
    let there = ended c.args.self.now.disconnected.items c.in_ok-place.place c.in_ok-slot.slot.now (cc (c.first_end.ensures, c.in_ok-place.was)) c.in_ok-slot.ensures.value in
    absurd (true≢false (sym there ∙ ap is_some (sym c.in_err-taken.ensures.value)))

pub returns-clause-taken : goal.returns-clause-taken
returns-clause-taken g c =
    stands c.args.self.now.disconnected.items c.in_ok-place.place c.in_ok-slot.slot.now (cc (c.first_end.ensures, c.in_ok-place.was)) c.in_ok-slot.ensures.value
    ∙ ap Some (sym c.in_ok-taken.ensures.value)
