use Rattle.std.proofs.Common.{◌≡◌, ◌++◌, map, flat_map}
use Rattle.logic_values.specs.Lists.{parts_of}
use Rattle.logic_values.specs.Views.{value_view}
use Rattle.logic_values.proofs.lists.merged.Given as goal

abbrev pub invariant-loop-value : goal.invariant-loop-value
invariant-loop-value l = map value_view l.items.items ++ flat_map parts_of (map value_view l.value-iterator) ≡ flat_map parts_of (map value_view l.fn.values.items)
