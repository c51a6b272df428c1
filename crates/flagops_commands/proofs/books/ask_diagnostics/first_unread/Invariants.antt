use Rattle.std.proofs.Common.{◌≡◌, ◌+◌, drop}
use Rattle.flag_text.specs.View.{items_view}
use Rattle.flagops_commands.specs.DriveSummary.{first_unread}
use Rattle.flagops_commands.proofs.books.ask_diagnostics.first_unread.Given as goal

-- the rest answers as the whole
abbrev pub invariant-loop-place : goal.invariant-loop-place
invariant-loop-place l = first_unread (l.place + 1) (items_view (drop l.place l.asks)) ≡ first_unread 1 (items_view l.asks)
