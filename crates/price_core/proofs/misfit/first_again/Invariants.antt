use Rattle.std.proofs.Common.{◌≡◌, [], drop, map}
use Rattle.flag_text.specs.View.{items_view}
use Rattle.price_core.specs.Misfit.{first_again}
use Rattle.price_core.specs.Pricing.{lent_pair}
use Rattle.price_core.proofs.misfit.first_again.Given as goal

-- the rest answers as the whole
abbrev pub invariant-loop-place : goal.invariant-loop-place
invariant-loop-place l = first_again (map lent_pair l.seen.keys) l.place (items_view (drop l.place l.items)) ≡ first_again [] 0 (items_view l.items)
