use Rattle.std.proofs.Common.{ℕ, ◌<◌, ◌≤◌, get_or}
use Rattle.std.specs.Borrow.{Bor}
use Rattle.std.specs.Prelude.{List}
use Rattle.price_core.specs.Limits.{high_of, limits_view}
use Rattle.transport_core.proofs.totals.keeps_high.Given as goal

abbrev pub invariant-loop-name : goal.invariant-loop-name
invariant-loop-name l = (k : ℕ) (d : Bor (List ℕ) × ℕ) → k < l.name-index → (get_or l.totals k d).1 ≤ high_of (limits_view l.limits) (get_or l.totals k d).0.now
