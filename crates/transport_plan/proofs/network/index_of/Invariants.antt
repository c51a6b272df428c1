use Rattle.std.proofs.Common.{◌≡◌, ◌<◌, ◌≤◌, ℕ, [], length}
use Rattle.std.specs.List.{slice_index_or}
use Rattle.std.specs.Map.{keys_of}
use Rattle.price_core.specs.Limits.{limits_view}
use Rattle.transport_plan.proofs.network.index_of.Given as goal

abbrev pub invariant-loop-place : goal.invariant-loop-place
invariant-loop-place l = (k : ℕ) × (l.place ≤ k) × (k < length (keys_of (limits_view l.limits))) × (slice_index_or (keys_of (limits_view l.limits)) k [] ≡ l.name)
