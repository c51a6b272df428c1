use Rattle.std.proofs.Common.{◌≡◌, drop}
use Rattle.logic_ast.specs.View.{buckets_view}
use Rattle.flag_doubts.specs.Weights.{are_weightless}
use Rattle.flag_doubts.proofs.weights.are_weightless.Given as goal

abbrev pub invariant-loop-bucket : goal.invariant-loop-bucket
invariant-loop-bucket l = are_weightless (buckets_view l.bucket-items) ≡ are_weightless (buckets_view (drop l.bucket-index l.bucket-items))
