use Rattle.std.proofs.Common.{◌≡◌, ◌++◌, [], map, Some, string_bytes, refl, sym, ap, subst, arith}
use Rattle.std.specs.List.Sorted.{IsStrictlySortedBy}
use Rattle.book_core.specs.Lines.{with_line}
use Rattle.book_core.specs.Page.{bytes_cmp}
use Rattle.book_core.specs.Reading.{first_fault, leading, lines_of}
use Rattle.book_core.proofs.Noting.{exposure_none}
use Rattle.book_core.proofs.read.read_inputs.Goals as goal

pub lines-init : goal.lines-init
lines-init c =
    let lines = c.args.lines.now in
    let whole = with_line c.args.first (lines_of lines.rest.now) in
    let none : c.new-inputs.result.items ≡ [] = c.new-inputs.ensures.items in
    record {
      led = ap (λ xs. map string_bytes xs ++ leading whole) none;
      same = refl;
      fault = λ page. ap (λ xs. first_fault lines.taken (Some (page, map string_bytes xs)) whole) (sym none);
      rising = subst (λ xs. IsStrictlySortedBy bytes_cmp (map string_bytes xs)) (sym none) exposure_none.rising;
      shorter = omega arith;
    }
