use Rattle.std.proofs.Common.{◌≡◌, drop, map}
use Rattle.std.specs.List.{list_any}
use Rattle.logic_values.specs.Comparison.{is_same}
use Rattle.logic_values.specs.Views.{seen_view, value_view}
use Rattle.logic_values.proofs.lists.is_among.Given as goal

abbrev pub invariant-loop-item : goal.invariant-loop-item
invariant-loop-item l = list_any (is_same (seen_view l.value)) (map value_view (drop l.item-index l.items)) ≡ list_any (is_same (seen_view l.value)) (map value_view l.items)
