use Rattle.std.proofs.Common.{◌≡◌, take, map}
use Rattle.logic_values.specs.Views.{value_view}
use Rattle.logic_values.proofs.value.+copy.Given as goal

abbrev pub invariant-copies-loop-item : goal.invariant-copies-loop-item
invariant-copies-loop-item l = map value_view l.copies.items ≡ map value_view (take l.item-index l.item-items)
