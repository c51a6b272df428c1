use Rattle.std.proofs.Common.{◌≡◌, drop}
use Rattle.std.specs.Map.{lookup}
use Rattle.std.specs.Str.{bytes_eq}
use Rattle.transport_core.specs.Rows.{totals_view}
use Rattle.transport_core.proofs.totals.total_in.Given as goal

-- the rest answers as the whole
abbrev pub invariant-loop-other : goal.invariant-loop-other
invariant-loop-other l = lookup (bytes_eq l.name) (totals_view (drop l.other-index l.totals)) ≡ lookup (bytes_eq l.name) (totals_view l.totals)
