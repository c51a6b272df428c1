use Rattle.std.proofs.Common.{◌≡◌, ◌+◌, ◌≤◌, ◌++◌, [], length, map, Some, option_to_list, string_bytes}
use Rattle.std.specs.List.Sorted.{IsStrictlySortedBy}
use Rattle.book_core.specs.Lines.{with_line}
use Rattle.book_core.specs.Page.{PageName, bytes_cmp}
use Rattle.book_core.specs.Reading.{first_fault, leading, lines_of, pages_in}
use Rattle.book_core.proofs.read.read_inputs.Given as goal

abbrev pub invariant-lines : goal.invariant-lines
invariant-lines l =
    let whole = with_line l.fn.first (lines_of l.fn.lines.rest.now) in
    let here = with_line l.line (lines_of l.lines.rest.now) in
    record {
      led : map string_bytes l.inputs.items ++ leading here ≡ leading whole;
      same : pages_in here ≡ pages_in whole;
      fault : (page : PageName) → first_fault l.fn.lines.taken (Some (page, [])) whole ≡ first_fault l.lines.taken (Some (page, map string_bytes l.inputs.items)) here;
      rising : IsStrictlySortedBy bytes_cmp (map string_bytes l.inputs.items);
      shorter : length l.lines.rest.now ≤ length l.fn.lines.rest.now;
    }

abbrev pub decreases-lines : goal.decreases-lines
decreases-lines l = length l.lines.rest.now + length (option_to_list l.line)
