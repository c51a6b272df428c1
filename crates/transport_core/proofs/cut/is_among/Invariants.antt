use Rattle.std.proofs.Common.{◌≡◌, drop}
use Rattle.bucket_core.specs.Rule.{names_view}
use Rattle.transport_core.specs.Deficient.{is_among}
use Rattle.transport_core.proofs.cut.is_among.Given as goal

-- the rest answers as the whole
abbrev pub invariant-loop-other : goal.invariant-loop-other
invariant-loop-other l = is_among (names_view (drop l.other-index l.names)) l.name ≡ is_among (names_view l.names) l.name
