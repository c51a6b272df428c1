use Rattle.std.proofs.Common.{◌≡◌, drop}
use Rattle.ofrep_guards.specs.Asked.{ends_type}
use Rattle.ofrep_guards.proofs.media_type.ends_type.Given as goal

-- what is left ends the type where all of it does
abbrev pub invariant-loop-byte : goal.invariant-loop-byte
invariant-loop-byte l = ends_type (drop l.byte-index l.rest) ≡ ends_type l.rest
