use Rattle.std.proofs.Common.{◌≡◌, ℕ, ◌++◌, List, map, drop, string_bytes}
use Rattle.std.specs.List.{AllByRecursion}
use Rattle.flag_text.specs.Shape.{text}
use Rattle.book_core.specs.Printing.{Reads, inputs_text}
use Rattle.book_core.proofs.print.push_list.Given as goal

abbrev pub invariant-loop-input : goal.invariant-loop-input
invariant-loop-input l =
    let rest = map string_bytes (drop l.input-index l.list) in
    record {
      written : l.out.items ++ inputs_text rest ≡ l.fn.out.items ++ inputs_text (map string_bytes l.list);
      reads : AllByRecursion (λ (input : List ℕ). Reads (text input)) rest → AllByRecursion (λ (input : List ℕ). Reads (text input)) (map string_bytes l.list);
    }
