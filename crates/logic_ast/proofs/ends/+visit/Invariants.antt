use Rattle.std.proofs.Common.{◌≡◌, ◌++◌, drop, map}
use Rattle.logic_ast.specs.Ends.{ends_view, site_ends}
use Rattle.logic_ast.specs.Sites.{preorder_in, preorder_in_buckets}
use Rattle.logic_ast.specs.View.{nodes_view, buckets_view}
use Rattle.logic_ast.proofs.ends.+visit.Given as goal

abbrev pub invariant-visit_all-loop-node : goal.invariant-visit_all-loop-node
invariant-visit_all-loop-node l =
    ends_view l.initial.ends.items ++ map site_ends (preorder_in (nodes_view l.node-items)) ≡ ends_view l.ends.items ++ map site_ends (preorder_in (nodes_view (drop l.node-index l.node-items)))

abbrev pub invariant-visit_buckets-loop-bucket : goal.invariant-visit_buckets-loop-bucket
invariant-visit_buckets-loop-bucket l =
    ends_view l.initial.ends.items ++ map site_ends (preorder_in_buckets (buckets_view l.bucket-items)) ≡ ends_view l.ends.items ++ map site_ends (preorder_in_buckets (buckets_view (drop l.bucket-index l.bucket-items)))
