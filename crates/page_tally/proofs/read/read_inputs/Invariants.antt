use Rattle.std.proofs.Common.{◌≡◌, ℕ, ◌+◌, ◌≤◌, length, Some, None, option_to_list}
use Rattle.book_core.specs.Page.{PageName}
use Rattle.book_core.specs.Reading.{lines_of}
use Rattle.page_tally.specs.Folding.{tally_from}
use Rattle.page_tally.specs.Inputs.{last_view}
use Rattle.page_tally.specs.Lines.{with_line}
use Rattle.page_tally.proofs.read.read_inputs.Given as goal

abbrev pub invariant-lines : goal.invariant-lines
invariant-lines g l = record {
  read : (wanted page : PageName) (total : ℕ) → tally_from wanted total (Some page) l.fn.lines.taken None l.fn.counter (with_line l.fn.first (lines_of l.fn.lines.rest.now))
      ≡ tally_from wanted total (Some page) l.lines.taken (last_view l.last) l.counter (with_line l.line (lines_of l.lines.rest.now));
  whole : length l.counter.counts ≡ length l.fn.counter.counts;
  shorter : length l.lines.rest.now ≤ length l.fn.lines.rest.now;
}

abbrev pub decreases-lines : goal.decreases-lines
decreases-lines g l = length l.lines.rest.now + length (option_to_list l.line)
