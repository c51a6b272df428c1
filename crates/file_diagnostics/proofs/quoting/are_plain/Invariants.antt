use Rattle.std.proofs.Common.{◌≡◌, drop}
use Rattle.file_diagnostics.specs.Named.{are_plain}
use Rattle.file_diagnostics.proofs.quoting.are_plain.Given as goal

abbrev pub invariant-loop-byte : goal.invariant-loop-byte
invariant-loop-byte l = are_plain l.bytes ≡ are_plain (drop l.byte-index l.bytes)
