use Rattle.std.proofs.Common.{◌≡◌, ◌++◌, drop, option_map}
use Rattle.flag_text.specs.View.{items_view}
use Rattle.price_core.specs.Pricing.{entries_view}
use Rattle.price_core.specs.Request.{each_of, bar_parts}
use Rattle.price_core.proofs.draft.bars_of.Given as goal

abbrev pub invariant-loop-item : goal.invariant-loop-item
invariant-loop-item l = each_of bar_parts (items_view l.items) ≡ option_map (λ ps. entries_view l.bars.items ++ ps) (each_of bar_parts (items_view (drop l.item-index l.items)))
