use Rattle.std.proofs.Common.{◌≡◌, ◌++◌, drop, length, map, option_map, true}
use Rattle.flag_text.specs.Shape.{items_are_whole}
use Rattle.flag_text.specs.View.{items_view}
use Rattle.flagops_drive.specs.Asks.{ask_view, asks_in}
use Rattle.flagops_drive.proofs.asks.tree_asks.Given as goal

abbrev pub invariant-loop-item : goal.invariant-loop-item
invariant-loop-item l = record {
  read : asks_in (items_view l.items) ≡ option_map (λ more. map ask_view l.asks.items ++ more) (asks_in (items_view (drop l.item-index l.items)));
  whole : items_are_whole (items_view (drop l.item-index l.items)) ≡ true;
  each : length l.asks.items ≡ l.item-index;
}
