use Rattle.std.proofs.Common.{◌≡◌, drop}
use Rattle.flag_text.specs.View.{items_view}
use Rattle.logic_ast.specs.Size.{expressions_size, buckets_size, left_after}
use Rattle.logic_ast.proofs.size.+count.Given as goal

abbrev pub invariant-count_all-loop-item : goal.invariant-count_all-loop-item
invariant-count_all-loop-item l = left_after l.levels l.nodes (expressions_size (items_view l.items)) ≡ left_after l.levels l.left (expressions_size (items_view (drop l.item-index l.items)))

abbrev pub invariant-count_buckets-loop-item : goal.invariant-count_buckets-loop-item
invariant-count_buckets-loop-item l = left_after l.levels l.nodes (buckets_size (items_view l.items)) ≡ left_after l.levels l.left (buckets_size (items_view (drop l.item-index l.items)))
