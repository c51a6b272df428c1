use Rattle.std.proofs.Common.{◌≡◌, ◌^◌, drop, pos, ◌+ℤ◌, ◌≤ℤ◌}
use Rattle.price_core.specs.Limits.{limits_view}
use Rattle.transport_core.specs.Certificate.{beta_view, losses}
use Rattle.transport_core.proofs.duals.falls_to.Given as goal

-- what is summed, with the rest, is the whole
abbrev pub invariant-loop-i : goal.invariant-loop-i
invariant-loop-i l = record {
  whole : (l.sum +ℤ losses (limits_view (drop l.i l.limits)) (beta_view (drop l.i l.beta))) ≡ (l.initial.sum +ℤ losses (limits_view l.limits) (beta_view l.beta));
  high : l.sum ≤ℤ pos (2 ^ 96);
}
