use Rattle.std.proofs.Common.{◌≡◌, subst, sym}
use Rattle.flag_defs.specs.Flags.{flags_view}
use Rattle.flag_resolve.specs.Views.{resolution_view}
use Rattle.book_share.specs.Asked.{mentions_of, resolved}
use Rattle.book_share.specs.Driven.{Notes}
use Rattle.book_share.specs.declared.ask.Ask.{Ask}
use Rattle.book_share.proofs.Reaching.{answer_is, noted_at}
use Rattle.book_share.proofs.worker.answered.Goals as goal

pub returns-clause-answer : goal.returns-clause-answer
returns-clause-answer g c =
    let flags = flags_view c.args.round.now.flags.now in
    answer_is flags c.args.round.now.asks.now c.index-round-ask.result c.args.ask c.in_ok-resolution.resolution c.requires.within c.index-round-ask.is
    (subst (λ (x : Ask). resolution_view c.in_ok-resolution.resolution ≡ resolved flags x) (sym c.index-round-ask.is) c.in_ok-resolution.ensures.resolution)

pub returns-clause-noted : goal.returns-clause-noted
returns-clause-noted g c =
    let flags = flags_view c.args.round.now.flags.now in
    let old = c.args.seat.now in
    let new = c.resolved.new.seat in
    noted_at flags c.args.round.now.asks.now c.index-round-ask.result c.args.ask old c.args.refused.now new c.resolved.new.refused c.requires.within c.index-round-ask.is
    (subst (λ (x : Ask). Notes (mentions_of flags x) old c.args.refused.now new c.resolved.new.refused) (sym c.index-round-ask.is) c.in_ok-resolution.ensures.noted)

pub returns-then-not-starts-clause-stalled : goal.returns-then-not-starts-clause-stalled
returns-then-not-starts-clause-stalled g c = λ _. (c.args.ask, c.requires.within, c.starts.ensures.closed c.if-not-starts.true)
