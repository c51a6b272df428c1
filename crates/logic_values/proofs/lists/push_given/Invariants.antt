use Rattle.std.proofs.Common.{◌≡◌, ◌++◌, drop, map}
use Rattle.flag_text.specs.View.{view}
use Rattle.logic_values.specs.Views.{value_view}
use Rattle.logic_values.proofs.lists.push_given.Given as goal

abbrev pub invariant-loop-tree : goal.invariant-loop-tree
invariant-loop-tree l = map value_view l.items.items ++ map view (drop l.tree-index l.parts) ≡ map value_view l.initial.items.items ++ map view l.parts
