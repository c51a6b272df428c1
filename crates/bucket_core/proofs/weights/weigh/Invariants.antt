use Rattle.std.proofs.Common.{◌≡◌, ◌<◌, ◌+◌, ◌^◌, drop, sum_by}
use Rattle.bucket_core.proofs.weights.weigh.Given as goal

-- what is summed, with the rest, is the whole
abbrev pub invariant-loop-weight : goal.invariant-loop-weight
invariant-loop-weight g l = record {
  whole : l.total + sum_by (λ e. e.1) (drop l.weight-index l.entries) ≡ sum_by (λ e. e.1) l.entries;
  small : l.total < 2 ^ 31;
}
