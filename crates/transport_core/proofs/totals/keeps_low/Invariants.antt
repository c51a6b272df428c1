use Rattle.std.proofs.Common.{ℕ, ◌<◌, ◌≤◌, get_or, string_bytes}
use Rattle.price_core.specs.declared.totals.Limit.{Limit}
use Rattle.transport_core.specs.Rows.{total_in, totals_view}
use Rattle.transport_core.proofs.totals.keeps_low.Given as goal

abbrev pub invariant-loop-limit : goal.invariant-loop-limit
invariant-loop-limit l = (k : ℕ) (d : Limit) → k < l.limit-index → (get_or l.limits k d).low ≤ total_in (totals_view l.totals) (string_bytes (get_or l.limits k d).name)
