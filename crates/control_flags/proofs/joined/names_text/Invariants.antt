use Rattle.std.proofs.Common.{◌≡◌, ◌++◌, drop, false, string_bytes}
use Rattle.control_flags.specs.Joined.{names_text}
use Rattle.control_flags.proofs.joined.names_text.Given as goal

abbrev pub invariant-loop-name : goal.invariant-loop-name
invariant-loop-name l = string_bytes l.out ++ names_text l.later (drop l.name-index l.names) ≡ names_text false l.names
