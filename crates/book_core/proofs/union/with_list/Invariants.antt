use Rattle.std.proofs.Common.{◌≡◌, map, drop, string_bytes}
use Rattle.book_core.specs.Union.{with_inputs}
use Rattle.book_core.proofs.union.with_list.Given as goal

abbrev pub invariant-loop-input : goal.invariant-loop-input
invariant-loop-input l = with_inputs l.both l.page (map string_bytes (drop l.input-index l.list)) ≡ with_inputs l.fn.book l.page (map string_bytes l.list)
