use Rattle.std.proofs.Common.{◌≡◌, ◌++◌, drop}
use Rattle.std.specs.List.{zip}
use Rattle.std.specs.Map.{keys_of}
use Rattle.price_core.specs.Limits.{limits_view}
use Rattle.transport_core.specs.Certificate.{beta_view}
use Rattle.transport_plan.proofs.certifying.beta_rows.Given as goal

-- what is pushed, with the rest, is the whole
abbrev pub invariant-loop-place : goal.invariant-loop-place
invariant-loop-place l = beta_view l.rows.items ++ zip (keys_of (limits_view (drop l.place l.limits))) (drop l.place l.duals) ≡ zip (keys_of (limits_view l.limits)) l.duals
