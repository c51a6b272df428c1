use Rattle.std.proofs.Common.{◌≡◌, ◌+◌, drop}
use Rattle.logic_ast.specs.Sites.{sites_in, sites_in_buckets}
use Rattle.logic_ast.specs.View.{nodes_view, buckets_view}
use Rattle.logic_ast.proofs.lookup.+count.Given as goal

abbrev pub invariant-count_in-loop-node : goal.invariant-count_in-loop-node
invariant-count_in-loop-node l = sites_in (nodes_view l.node-items) ≡ l.total + sites_in (nodes_view (drop l.node-index l.node-items))

abbrev pub invariant-count_in_buckets-loop-bucket : goal.invariant-count_in_buckets-loop-bucket
invariant-count_in_buckets-loop-bucket l = sites_in_buckets (buckets_view l.bucket-items) ≡ l.total + sites_in_buckets (buckets_view (drop l.bucket-index l.bucket-items))
