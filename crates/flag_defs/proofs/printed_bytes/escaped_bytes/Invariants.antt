use Rattle.std.proofs.Common.{◌≡◌, drop}
use Rattle.flag_defs.specs.PrintedBytes.{escaped_bytes}
use Rattle.flag_defs.proofs.printed_bytes.escaped_bytes.Given as goal

abbrev pub invariant-loop-i : goal.invariant-loop-i
invariant-loop-i l = escaped_bytes (drop l.i l.content) ≡ l.bytes
