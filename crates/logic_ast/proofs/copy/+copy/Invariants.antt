use Rattle.std.proofs.Common.{◌≡◌, take, map}
use Rattle.logic_ast.specs.Sites.{lowered, bucket_lowered}
use Rattle.logic_ast.specs.View.{node_view, bucket_view}
use Rattle.logic_ast.proofs.copy.+copy.Given as goal

abbrev pub invariant-all_lowered-loop-node : goal.invariant-all_lowered-loop-node
invariant-all_lowered-loop-node l = map node_view l.copies.items ≡ map (λ n. lowered l.less (node_view n)) (take l.node-index l.node-items)

abbrev pub invariant-buckets_lowered-loop-bucket : goal.invariant-buckets_lowered-loop-bucket
invariant-buckets_lowered-loop-bucket l = map bucket_view l.copies.items ≡ map (λ b. bucket_lowered l.less (bucket_view b)) (take l.bucket-index l.bucket-items)
