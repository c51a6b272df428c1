use Rattle.std.proofs.Common.{◌≡◌, ◌++◌, option_map}
use Rattle.std.specs.Vec.Iter.{into_iter_items}
use Rattle.price_core.specs.Pricing.{entries_view}
use Rattle.price_core.specs.Request.{as_prices}
use Rattle.price_core.proofs.request.as_prices.Given as goal

abbrev pub invariant-loop-change : goal.invariant-loop-change
invariant-loop-change l =
    goal.iterator-loop-change.can_next l.change-iterator ×
    goal.iterator-loop-change.is_finite l.change-iterator ×
    (as_prices (entries_view l.fn.named.items) ≡ option_map (λ ps. entries_view l.prices.items ++ ps) (as_prices (entries_view (into_iter_items l.change-iterator))))
