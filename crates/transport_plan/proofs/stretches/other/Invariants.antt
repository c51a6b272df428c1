use Rattle.std.proofs.Common.{◌≡◌, ◌≢◌, ◌<◌, ℕ, get_or}
use Rattle.transport_plan.proofs.stretches.other.Given as goal

abbrev pub invariant-loop-name : goal.invariant-loop-name
invariant-loop-name l = (w : ℕ) → w < l.name → w ≢ l.base → get_or l.row w 0 ≡ 0
