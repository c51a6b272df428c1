use Rattle.std.proofs.Common.{◌≡◌, drop}
use Rattle.logic_ast.specs.View.{nodes_view, buckets_view}
use Rattle.flagops_filters.specs.Moment.{one_reads, bucket_reads}
use Rattle.flagops_filters.proofs.moment.+reads.Given as goal

-- none so far reads it: all do as those that are left
abbrev pub invariant-one_reads-loop-node : goal.invariant-one_reads-loop-node
invariant-one_reads-loop-node l = one_reads (nodes_view l.node-items) ≡ one_reads (nodes_view (drop l.node-index l.node-items))

abbrev pub invariant-bucket_reads-loop-bucket : goal.invariant-bucket_reads-loop-bucket
invariant-bucket_reads-loop-bucket l = bucket_reads (buckets_view l.bucket-items) ≡ bucket_reads (buckets_view (drop l.bucket-index l.bucket-items))
