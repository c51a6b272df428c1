use Rattle.std.proofs.Common.{◌≡◌, map, string_bytes}
use Rattle.book_core.specs.Union.{with_inputs}
use Rattle.book_core.proofs.union.with_set.Given as goal

abbrev pub invariant-loop-input : goal.invariant-loop-input
invariant-loop-input l = with_inputs l.both l.page (map string_bytes l.input-iterator) ≡ with_inputs l.fn.book l.page (map string_bytes l.set.keys)
