use Rattle.std.proofs.Common.{◌≡◌, ◌<◌, ℕ, pos, length, get_or}
use Rattle.transport_plan.specs.DualPrices.{IsLeastAt}
use Rattle.transport_plan.proofs.dual_prices.group_dual_prices.Given as goal

abbrev pub invariant-loop-g : goal.invariant-loop-g
invariant-loop-g l = record {
  size : length l.duals.items ≡ l.g;
  each : (g : ℕ) → g < l.g → IsLeastAt l.groups l.costs (length l.name_duals) l.name_duals g (get_or l.duals.items g (pos 0));
}
