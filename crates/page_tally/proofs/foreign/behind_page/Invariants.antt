use Rattle.std.proofs.Common.{◌≡◌, length}
use Rattle.book_core.specs.Book.{inputs_on}
use Rattle.book_core.specs.Reading.{lines_of, pages_in}
use Rattle.page_tally.proofs.foreign.behind_page.Given as goal

abbrev pub invariant-loop-line : goal.invariant-loop-line
invariant-loop-line g l = inputs_on (pages_in (lines_of l.bytes)) l.page ≡ inputs_on (pages_in (lines_of l.rest)) l.page

abbrev pub decreases-loop-line : goal.decreases-loop-line
decreases-loop-line g l = length l.rest
