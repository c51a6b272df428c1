use Rattle.std.proofs.Common.{◌≡◌, drop}
use Rattle.flag_text.specs.View.{items_view}
use Rattle.price_core.specs.RequestError.{other_parts}
use Rattle.price_core.specs.Misfit.{first_unread}
use Rattle.price_core.proofs.request_error.first_self.Given as goal

-- the rest answers as the whole
abbrev pub invariant-loop-place : goal.invariant-loop-place
invariant-loop-place l = first_unread other_parts l.place (items_view (drop l.place l.items)) ≡ first_unread other_parts 0 (items_view l.items)
