use Rattle.flag_defs.specs.Flags.{flags_view}
use Rattle.book_share.specs.Known.{AreKnown}
use Rattle.book_share.proofs.known.known_pages.Given as goal

abbrev pub invariant-loop-ask : goal.invariant-loop-ask
invariant-loop-ask l = AreKnown (flags_view l.flags) l.known.entries
