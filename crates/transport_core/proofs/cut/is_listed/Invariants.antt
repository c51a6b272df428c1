use Rattle.std.proofs.Common.{◌≡◌, drop}
use Rattle.std.specs.List.{list_any}
use Rattle.std.specs.Map.{keys_of}
use Rattle.std.specs.Str.{bytes_eq}
use Rattle.price_core.specs.Limits.{limits_view}
use Rattle.transport_core.proofs.cut.is_listed.Given as goal

-- the rest answers as the whole
abbrev pub invariant-loop-limit : goal.invariant-loop-limit
invariant-loop-limit l = list_any (bytes_eq l.name) (keys_of (limits_view (drop l.limit-index l.limits))) ≡ list_any (bytes_eq l.name) (keys_of (limits_view l.limits))
