use Rattle.std.proofs.Common.{◌≡◌, drop}
use Rattle.std.specs.List.{list_any}
use Rattle.bucket_core.specs.Rule.{names_view}
use Rattle.transport_core.specs.Deficient.{may_become}
use Rattle.transport_core.proofs.cut.reaches.Given as goal

-- the rest answers as the whole
abbrev pub invariant-loop-to : goal.invariant-loop-to
invariant-loop-to l = list_any (may_become l.prices l.from) (names_view (drop l.to-index l.names)) ≡ list_any (may_become l.prices l.from) (names_view l.names)
