use Rattle.std.proofs.Common.{◌≡◌, ◌++◌, map}
use Rattle.flag_text.specs.View.{view}
use Rattle.logic_values.specs.Views.{value_view}
use Rattle.logic_values.proofs.tree.+tree.Given as goal

abbrev pub invariant-trees_of-loop-value : goal.invariant-trees_of-loop-value
invariant-trees_of-loop-value l = map view l.trees.items ++ map value_view l.value-iterator.rest.items ≡ map value_view l.fn.values.items
