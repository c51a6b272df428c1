use Rattle.std.proofs.Common.{◌≡◌, ◌++◌, true, drop, string_bytes}
use Rattle.serde_json.specs.Written.{items_text}
use Rattle.flag_text.specs.Printing.{items_data}
use Rattle.flag_text.specs.Shape.{items_are_whole}
use Rattle.logic_ast.specs.View.{nodes_view, buckets_view}
use Rattle.logic_ast.specs.Writing.{all_written, buckets_written}
use Rattle.site_pages.proofs.text.+push.Given as goal

abbrev pub invariant-push_nodes-loop-node : goal.invariant-push_nodes-loop-node
invariant-push_nodes-loop-node l =
    (items_are_whole (all_written (nodes_view (drop l.node-index l.node-items))) ≡ true)
    × (string_bytes l.initial.text ++ items_text l.initial.later (items_data (all_written (nodes_view l.node-items))) ≡ string_bytes l.text ++ items_text l.later (items_data (all_written (nodes_view (drop l.node-index l.node-items)))))

abbrev pub invariant-push_buckets-loop-bucket : goal.invariant-push_buckets-loop-bucket
invariant-push_buckets-loop-bucket l =
    (items_are_whole (buckets_written (buckets_view (drop l.bucket-index l.bucket-items))) ≡ true)
    × (string_bytes l.initial.text ++ items_text l.initial.comma (items_data (buckets_written (buckets_view l.bucket-items))) ≡ string_bytes l.text ++ items_text l.comma (items_data (buckets_written (buckets_view (drop l.bucket-index l.bucket-items)))))
