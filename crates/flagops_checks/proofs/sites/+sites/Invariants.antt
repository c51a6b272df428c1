use Rattle.std.proofs.Common.{◌≡◌, drop}
use Rattle.logic_ast.specs.View.{nodes_view, buckets_view}
use Rattle.flagops_checks.specs.Sites.{buckets_have, some_have}
use Rattle.flagops_checks.proofs.sites.+sites.Given as goal

-- none so far has one: all have as those that are left
abbrev pub invariant-some_have-loop-node : goal.invariant-some_have-loop-node
invariant-some_have-loop-node l = some_have l.doubt (nodes_view l.node-items) ≡ some_have l.doubt (nodes_view (drop l.node-index l.node-items))

abbrev pub invariant-buckets_have-loop-bucket : goal.invariant-buckets_have-loop-bucket
invariant-buckets_have-loop-bucket l = buckets_have l.doubt (buckets_view l.bucket-items) ≡ buckets_have l.doubt (buckets_view (drop l.bucket-index l.bucket-items))
