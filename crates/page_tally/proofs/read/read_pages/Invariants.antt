use Rattle.std.proofs.Common.{◌≡◌, ◌+◌, length, None, replicate, option_to_list}
use Rattle.book_core.specs.Page.{PageName}
use Rattle.book_core.specs.Reading.{lines_of}
use Rattle.page_tally.specs.Folding.{tally_after}
use Rattle.page_tally.specs.Lines.{with_page}
use Rattle.page_tally.proofs.read.read_pages.Given as goal

abbrev pub invariant-pages : goal.invariant-pages
invariant-pages g l = record {
  read : tally_after l.wanted l.total l.before l.lines.taken l.counter.counts (with_page l.next (lines_of l.lines.rest.now)) ≡ tally_after l.wanted l.total None 2 (replicate l.total 0) (lines_of l.fn.lines.rest.now);
  whole : length l.counter.counts ≡ l.total;
}

abbrev pub decreases-pages : goal.decreases-pages
decreases-pages g l = length l.lines.rest.now + length (option_to_list {X = PageName} l.next)
