use Rattle.std.proofs.Common.{◌≡◌, drop}
use Rattle.std.specs.List.{list_any}
use Rattle.logic_ast.specs.Sites.{preorder_in, preorder_in_buckets}
use Rattle.logic_ast.specs.View.{nodes_view, buckets_view}
use Rattle.flag_doubts.specs.Weights.{is_bad_site}
use Rattle.flag_doubts.proofs.weights.+weights.Given as goal

abbrev pub invariant-some_has_bad_site-loop-node : goal.invariant-some_has_bad_site-loop-node
invariant-some_has_bad_site-loop-node l = list_any is_bad_site (preorder_in (nodes_view l.node-items)) ≡ list_any is_bad_site (preorder_in (nodes_view (drop l.node-index l.node-items)))

abbrev pub invariant-buckets_have_bad_site-loop-bucket : goal.invariant-buckets_have_bad_site-loop-bucket
invariant-buckets_have_bad_site-loop-bucket l = list_any is_bad_site (preorder_in_buckets (buckets_view l.bucket-items)) ≡ list_any is_bad_site (preorder_in_buckets (buckets_view (drop l.bucket-index l.bucket-items)))
