use Rattle.std.proofs.Common.{◌≡◌, drop}
use Rattle.logic_ast.specs.View.{buckets_view}
use Rattle.flag_doubts.specs.Weights.{has_bad_weight}
use Rattle.flag_doubts.proofs.weights.has_bad_weight.Given as goal

abbrev pub invariant-loop-bucket : goal.invariant-loop-bucket
invariant-loop-bucket l = has_bad_weight (buckets_view l.bucket-items) ≡ has_bad_weight (buckets_view (drop l.bucket-index l.bucket-items))
