use Rattle.std.proofs.Common.{◌≡◌, ◌≤◌, length}
use Rattle.book_core.specs.Reading.{lines_of, pages_in}
use Rattle.page_tally.proofs.pages.next_page.Given as goal

-- no page begins on the lines so far
abbrev pub invariant-loop-line : goal.invariant-loop-line
invariant-loop-line l = (pages_in (lines_of l.bytes) ≡ pages_in (lines_of l.rest)) × (length l.rest ≤ length l.bytes)

abbrev pub decreases-loop-line : goal.decreases-loop-line
decreases-loop-line l = length l.rest
