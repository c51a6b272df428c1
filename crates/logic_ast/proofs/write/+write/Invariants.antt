use Rattle.std.proofs.Common.{◌≡◌, take, map}
use Rattle.flag_text.specs.View.{view as tree_view}
use Rattle.logic_ast.specs.View.{node_view, bucket_view}
use Rattle.logic_ast.specs.Writing.{written, bucket_written}
use Rattle.logic_ast.proofs.write.+write.Given as goal

abbrev pub invariant-write_nodes-loop-node : goal.invariant-write_nodes-loop-node
invariant-write_nodes-loop-node l = map tree_view l.trees.items ≡ map (λ n. written (node_view n)) (take l.node-index l.node-items)

abbrev pub invariant-write_buckets-loop-bucket : goal.invariant-write_buckets-loop-bucket
invariant-write_buckets-loop-bucket l = map tree_view l.trees.items ≡ map (λ b. bucket_written (bucket_view b)) (take l.bucket-index l.bucket-items)
