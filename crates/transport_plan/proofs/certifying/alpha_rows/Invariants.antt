use Rattle.std.proofs.Common.{◌≡◌, ◌++◌, drop}
use Rattle.std.specs.List.{zip}
use Rattle.std.specs.Map.{keys_of}
use Rattle.transport_core.specs.Certificate.{alpha_view}
use Rattle.transport_core.specs.Groups.{rows_view}
use Rattle.transport_plan.proofs.certifying.alpha_rows.Given as goal

-- what is pushed, with the rest, is the whole
abbrev pub invariant-loop-place : goal.invariant-loop-place
invariant-loop-place l = alpha_view l.rows.items ++ zip (keys_of (rows_view (drop l.place l.groups))) (drop l.place l.duals) ≡ zip (keys_of (rows_view l.groups)) l.duals
