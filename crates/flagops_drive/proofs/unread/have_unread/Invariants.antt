use Rattle.std.proofs.Common.{◌≡◌, drop}
use Rattle.flag_text.specs.View.{items_view}
use Rattle.flagops_drive.specs.Unread.{have_unread}
use Rattle.flagops_drive.proofs.unread.have_unread.Given as goal

abbrev pub invariant-loop-ask : goal.invariant-loop-ask
invariant-loop-ask l = have_unread (items_view (drop l.ask-index l.asks)) ≡ have_unread (items_view l.asks)
