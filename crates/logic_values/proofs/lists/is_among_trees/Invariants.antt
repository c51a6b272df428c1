use Rattle.std.proofs.Common.{◌≡◌, drop, map}
use Rattle.std.specs.List.{list_any}
use Rattle.flag_text.specs.View.{view}
use Rattle.logic_values.specs.Comparison.{is_same}
use Rattle.logic_values.specs.Views.{seen_view}
use Rattle.logic_values.proofs.lists.is_among_trees.Given as goal

abbrev pub invariant-loop-tree : goal.invariant-loop-tree
invariant-loop-tree l = list_any (is_same (seen_view l.value)) (map view (drop l.tree-index l.trees)) ≡ list_any (is_same (seen_view l.value)) (map view l.trees)
