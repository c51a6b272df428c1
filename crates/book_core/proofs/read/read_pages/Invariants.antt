use Rattle.std.proofs.Common.{◌≡◌, ◌+◌, ◌++◌, length, option_to_list}
use Rattle.book_core.specs.Book.{contents_view}
use Rattle.book_core.specs.Lines.{with_page, last_of}
use Rattle.book_core.specs.Page.{PageName}
use Rattle.book_core.specs.Reading.{first_fault, lines_book, lines_of, pages_in, unless}
use Rattle.book_core.proofs.read.read_pages.Given as goal

abbrev pub invariant-pages : goal.invariant-pages
invariant-pages l =
    let here = with_page l.next (lines_of l.lines.rest.now) in
    let book = contents_view l.pages.entries in
    unless (first_fault l.lines.taken (last_of book) here) (book ++ pages_in here) ≡ lines_book (lines_of l.fn.lines.rest.now)

abbrev pub decreases-pages : goal.decreases-pages
decreases-pages l = length l.lines.rest.now + length (option_to_list {X = PageName} l.next)
