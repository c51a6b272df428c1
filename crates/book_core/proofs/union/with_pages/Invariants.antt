use Rattle.std.proofs.Common.{◌≡◌, Ok}
use Rattle.book_core.specs.Book.{contents_view}
use Rattle.book_core.specs.Union.{with_pages}
use Rattle.book_core.proofs.union.with_pages.Given as goal

abbrev pub invariant-loop-page : goal.invariant-loop-page
invariant-loop-page l = with_pages (Ok l.both) (contents_view l.page-iterator) ≡ with_pages (Ok l.fn.book) (contents_view l.pages.entries)
