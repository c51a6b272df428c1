use Rattle.std.proofs.Common.{◌≡◌, drop, map, string_bytes}
use Rattle.price_core.specs.Request.{is_known}
use Rattle.price_core.proofs.request.is_known.Given as goal

abbrev pub invariant-loop-known : goal.invariant-loop-known
invariant-loop-known l = is_known (map string_bytes (drop l.known-index l.names)) l.name ≡ is_known (map string_bytes l.names) l.name
