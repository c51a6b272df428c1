use Rattle.std.proofs.Common.{◌≡◌, take, map}
use Rattle.logic_ast.specs.Sites.{with_entries, bucket_with_entries}
use Rattle.logic_ast.specs.View.{node_view, bucket_view}
use Rattle.logic_ast.proofs.replace.+replace.Given as goal

abbrev pub invariant-all_with_entries-loop-node : goal.invariant-all_with_entries-loop-node
invariant-all_with_entries-loop-node l = map node_view l.copies.items ≡ map (λ e. with_entries l.n l.rule (node_view e)) (take l.node-index l.node-items)

abbrev pub invariant-buckets_with_entries-loop-bucket : goal.invariant-buckets_with_entries-loop-bucket
invariant-buckets_with_entries-loop-bucket l = map bucket_view l.copies.items ≡ map (λ b. bucket_with_entries l.n l.rule (bucket_view b)) (take l.bucket-index l.bucket-items)
