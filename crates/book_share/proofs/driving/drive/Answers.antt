use Rattle.std.proofs.Common.{◌∙◌, length, sym}
use Rattle.std.proofs.lemmas.Bool.{eqb-true}
use Rattle.flag_defs.specs.Flags.{flags_view}
use Rattle.book_share.proofs.NoAsks.{no_notes}
use Rattle.book_share.proofs.driving.drive.Goals as goal

pub returns-in-None-clause-noted : goal.returns-in-None-clause-noted
returns-in-None-clause-noted g c =
    let d = c.of_no_asks.result in
    no_notes (flags_view c.args.flags.now) c.args.asks.now d.book d.calls d.news d.full (eqb-true (length c.args.asks.now) 0 (sym c.is_empty.ensures ∙ c.if-is_empty.true)) c.of_no_asks.ensures.book c.of_no_asks.ensures.counts
