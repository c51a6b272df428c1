use Rattle.std.proofs.Common.{◌≡◌, ◌++◌, drop, map}
use Rattle.price_core.specs.Limits.{limits_view}
use Rattle.transport_plan.proofs.network.high_limits.Given as goal

abbrev pub invariant-loop-limit : goal.invariant-loop-limit
invariant-loop-limit l = (l.high.items ++ map (λ x. x.1.1) (limits_view (drop l.limit-index l.limits))) ≡ map (λ x. x.1.1) (limits_view l.limits)
