use Rattle.std.proofs.Common.{◌≡◌, ◌+◌, [], length, map}
use Rattle.std.specs.Vec.Iter.{into_iter_items, into_iter_len}
use Rattle.flag_text.specs.View.{items_view}
use Rattle.logic_ast.specs.Expression.{no_by}
use Rattle.logic_ast.specs.Reading.{expressions_from}
use Rattle.logic_ast.specs.Sites.{sites_in, sites_in_by, sites_in_buckets}
use Rattle.logic_ast.specs.View.{node_view, nodes_view, boxed_view, bucket_view, buckets_view}
use Rattle.logic_ast.proofs.Readings.{onto, site_of_rest}
use Rattle.logic_ast.proofs.read.+read.Given as goal

abbrev pub invariant-read_nodes-loop-item : goal.invariant-read_nodes-loop-item
invariant-read_nodes-loop-item l = record {
  value : expressions_from l.initial.next (items_view l.fn.items.items) ≡ onto (map node_view l.nodes.items) (expressions_from l.next (items_view (into_iter_items l.item-iterator)));
  number : l.next ≡ l.initial.next + sites_in (nodes_view l.nodes.items);
  count : into_iter_len l.item-iterator ≡ length (into_iter_items l.item-iterator);
}

abbrev pub invariant-read_list-loop-item : goal.invariant-read_list-loop-item
invariant-read_list-loop-item l = record {
  value : site_of_rest (boxed_view l.by) (map bucket_view l.buckets.items) l.next (items_view (into_iter_items l.item-iterator)) ≡ site_of_rest no_by [] l.initial.next (items_view l.fn.items.items);
  number : l.next ≡ l.initial.next + (sites_in_by (boxed_view l.by) + sites_in_buckets (buckets_view l.buckets.items));
  count : into_iter_len l.item-iterator ≡ length (into_iter_items l.item-iterator);
}
