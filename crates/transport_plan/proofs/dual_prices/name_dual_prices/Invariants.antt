use Rattle.std.proofs.Common.{◌≡◌, ◌<◌, ℕ, pos, ◌-ℤ◌, length, get_or}
use Rattle.transport_plan.proofs.dual_prices.name_dual_prices.Given as goal

abbrev pub invariant-loop-name : goal.invariant-loop-name
invariant-loop-name l = record {
  size : length l.duals.items ≡ l.name;
  each : (v : ℕ) → v < l.name → get_or l.duals.items v (pos 0) ≡ (get_or l.potentials v (pos 0) -ℤ get_or l.potentials l.names (pos 0));
}
