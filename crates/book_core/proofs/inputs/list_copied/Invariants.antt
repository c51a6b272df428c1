use Rattle.std.proofs.Common.{◌≡◌, ◌++◌, map, drop, string_bytes}
use Rattle.book_core.proofs.inputs.list_copied.Given as goal

abbrev pub invariant-loop-input : goal.invariant-loop-input
invariant-loop-input l = map string_bytes l.copies.items ++ map string_bytes (drop l.input-index l.list) ≡ map string_bytes l.list
