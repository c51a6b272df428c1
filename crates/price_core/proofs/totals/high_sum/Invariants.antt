use Rattle.std.proofs.Common.{◌≡◌, ◌+◌, ◌*◌, ◌^◌, ◌≤◌, drop, sum_by}
use Rattle.price_core.specs.Limits.{limits_view}
use Rattle.price_core.proofs.totals.high_sum.Given as goal

-- what is summed, with the rest, is the whole
abbrev pub invariant-loop-limit : goal.invariant-loop-limit
invariant-loop-limit l = record {
  whole : l.sum + sum_by (λ x. x.1.1) (limits_view (drop l.limit-index l.limits)) ≡ sum_by (λ x. x.1.1) (limits_view l.limits);
  small : l.sum ≤ l.limit-index * 2 ^ 32;
}
