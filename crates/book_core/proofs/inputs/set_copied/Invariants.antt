use Rattle.std.proofs.Common.{◌≡◌, ◌++◌, map, string_bytes}
use Rattle.book_core.proofs.inputs.set_copied.Given as goal

abbrev pub invariant-loop-input : goal.invariant-loop-input
invariant-loop-input l = map string_bytes l.copies.items ++ map string_bytes l.input-iterator ≡ map string_bytes l.set.keys
