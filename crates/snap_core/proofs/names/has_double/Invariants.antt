use Rattle.std.proofs.Common.{◌≡◌, drop, map, string_bytes}
use Rattle.snap_core.specs.Opening.{has_double}
use Rattle.snap_core.proofs.names.has_double.Given as goal

abbrev pub invariant-loop-i : goal.invariant-loop-i
invariant-loop-i l = has_double (map string_bytes (drop l.i l.names)) ≡ has_double (map string_bytes l.names)
