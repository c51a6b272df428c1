use Rattle.std.proofs.Common.{◌≡◌, ◌+◌, ◌≤◌, drop}
use Rattle.logic_ast.specs.View.{buckets_view}
use Rattle.flag_doubts.specs.Weights.{literal_total}
use Rattle.flag_doubts.proofs.weights.are_too_heavy.Given as goal

abbrev pub invariant-loop-bucket : goal.invariant-loop-bucket
invariant-loop-bucket l = record {
  sum : literal_total (buckets_view l.bucket-items) ≡ l.total + literal_total (buckets_view (drop l.bucket-index l.bucket-items));
  light : l.total ≤ 2147483647;
}
