use Rattle.std.proofs.Common.{◌≡◌, drop}
use Rattle.std.specs.Map.{lookup}
use Rattle.std.specs.Str.{bytes_eq}
use Rattle.price_core.specs.Limits.{limits_view}
use Rattle.transport_core.proofs.totals.high_of.Given as goal

-- the rest answers as the whole
abbrev pub invariant-loop-limit : goal.invariant-loop-limit
invariant-loop-limit l = lookup (bytes_eq l.name) (limits_view (drop l.limit-index l.limits)) ≡ lookup (bytes_eq l.name) (limits_view l.limits)
