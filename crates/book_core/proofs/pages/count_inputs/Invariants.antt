use Rattle.std.proofs.Common.{◌≡◌, ◌+◌, sum_by}
use Rattle.book_core.specs.Book.{input_count, contents_view}
use Rattle.book_core.proofs.Counted.{size_of}
use Rattle.book_core.proofs.pages.count_inputs.Given as goal

abbrev pub invariant-loop-inputs : goal.invariant-loop-inputs
invariant-loop-inputs l = l.count + sum_by size_of l.inputs-iterator ≡ input_count (contents_view l.pages.entries)
