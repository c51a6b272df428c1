use Rattle.std.proofs.Common.{◌≡◌, drop}
use Rattle.logic_ast.specs.Found.{found_in, found_in_buckets}
use Rattle.logic_ast.specs.View.{nodes_view, buckets_view}
use Rattle.logic_ast.proofs.find.+find.Given as goal

abbrev pub invariant-find_in-loop-node : goal.invariant-find_in-loop-node
invariant-find_in-loop-node l = found_in l.n (nodes_view l.node-items) ≡ found_in l.n (nodes_view (drop l.node-index l.node-items))

abbrev pub invariant-find_in_buckets-loop-bucket : goal.invariant-find_in_buckets-loop-bucket
invariant-find_in_buckets-loop-bucket l = found_in_buckets l.n (buckets_view l.bucket-items) ≡ found_in_buckets l.n (buckets_view (drop l.bucket-index l.bucket-items))
