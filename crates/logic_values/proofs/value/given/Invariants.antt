use Rattle.std.proofs.Common.{◌≡◌, ◌++◌, drop, map}
use Rattle.flag_text.specs.View.{view}
use Rattle.logic_values.specs.Views.{value_view}
use Rattle.logic_values.proofs.value.given.Given as goal

abbrev pub invariant-loop-tree : goal.invariant-loop-tree
invariant-loop-tree l = map value_view l.values.items ++ map view (drop l.tree-index l.trees) ≡ map view l.trees
