use Rattle.std.proofs.Common.{◌≡◌, ◌-◌, ◌≤◌, ◌+◌, ◌*◌, sum, sum_by, drop}
use Rattle.std.specs.List.{range_with_len, slice_index}
use Rattle.bucket_core.specs.Rule.{entry_at, total_weight}
use Rattle.price_core.specs.Cost.{point_cost}
use Rattle.price_core.specs.Pricing.{max_price}
use Rattle.price_core.proofs.switching.Switching.tally_cost.Given as goal

abbrev pub invariant-loop-point : goal.invariant-loop-point
invariant-loop-point l = record {
  inside : l.point ≤ total_weight l.self.0;
  from_before : l.from ≤ entry_at l.self.0 l.point;
  to_before : l.to ≤ entry_at l.self.1 l.point;
  value : l.cost ≡ sum_by (λ p. slice_index l.counts p * point_cost l.self.0 l.self.1 l.self.2 p) (range_with_len 0 l.point);
  small : l.cost + max_price * sum (drop l.point l.counts) ≤ max_price * sum l.counts;
}

abbrev pub decreases-loop-point : goal.decreases-loop-point
decreases-loop-point l = l.total - l.point
