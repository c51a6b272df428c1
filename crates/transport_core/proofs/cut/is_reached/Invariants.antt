use Rattle.std.proofs.Common.{◌≡◌, drop}
use Rattle.std.specs.List.{list_any}
use Rattle.bucket_core.specs.Rule.{names_view}
use Rattle.transport_core.specs.Deficient.{may_become}
use Rattle.transport_core.proofs.cut.is_reached.Given as goal

-- the rest answers as the whole
abbrev pub invariant-loop-from : goal.invariant-loop-from
invariant-loop-from l = list_any (λ from. may_become l.prices from l.to) (names_view (drop l.from-index l.names)) ≡ list_any (λ from. may_become l.prices from l.to) (names_view l.names)
