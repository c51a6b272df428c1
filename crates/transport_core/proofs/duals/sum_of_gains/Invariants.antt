use Rattle.std.proofs.Common.{◌≡◌, ◌*◌, ◌^◌, drop, pos, sum_by, ◌+ℤ◌, ◌≤ℤ◌}
use Rattle.price_core.specs.Limits.{limits_view}
use Rattle.transport_core.specs.Certificate.{beta_view, gains}
use Rattle.transport_core.proofs.duals.sum_of_gains.Given as goal

-- what is summed, with the rest, is the whole
abbrev pub invariant-loop-i : goal.invariant-loop-i
invariant-loop-i l = record {
  whole : (l.sum +ℤ gains (limits_view (drop l.i l.limits)) (beta_view (drop l.i l.beta))) ≡ gains (limits_view l.limits) (beta_view l.beta);
  low : pos 0 ≤ℤ l.sum;
  high : (l.sum +ℤ pos (sum_by (λ x. x.low) (drop l.i l.limits) * 2 ^ 63)) ≤ℤ pos (sum_by (λ x. x.low) l.limits * 2 ^ 63);
}
