use Rattle.std.proofs.Common.{◌≡◌, ◌++◌, drop, map}
use Rattle.logic_ast.specs.Sites.{preorder_in, preorder_in_buckets}
use Rattle.logic_ast.specs.View.{nodes_view, buckets_view}
use Rattle.site_pages.specs.Sites.{place_of, place_view}
use Rattle.site_pages.proofs.sites.+visit.Given as goal

abbrev pub invariant-visit_all-loop-node : goal.invariant-visit_all-loop-node
invariant-visit_all-loop-node l =
    map place_view l.initial.places.items ++ map place_of (preorder_in (nodes_view l.node-items)) ≡ map place_view l.places.items ++ map place_of (preorder_in (nodes_view (drop l.node-index l.node-items)))

abbrev pub invariant-visit_buckets-loop-bucket : goal.invariant-visit_buckets-loop-bucket
invariant-visit_buckets-loop-bucket l =
    map place_view l.initial.places.items ++ map place_of (preorder_in_buckets (buckets_view l.bucket-items)) ≡ map place_view l.places.items ++ map place_of (preorder_in_buckets (buckets_view (drop l.bucket-index l.bucket-items)))
