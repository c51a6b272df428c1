use Rattle.std.proofs.Common.{◌≡◌, ◌++◌, flat_map}
use Rattle.std.specs.List.{AllByRecursion}
use Rattle.book_core.specs.Book.{contents_view}
use Rattle.book_core.specs.Printing.{ReadsPage, page_text}
use Rattle.book_core.proofs.print.push_pages.Given as goal

abbrev pub invariant-loop-page : goal.invariant-loop-page
invariant-loop-page l = record {
  written : l.out.items ++ flat_map page_text (contents_view l.page-iterator) ≡ l.fn.out.items ++ flat_map page_text (contents_view l.pages.entries);
  reads : AllByRecursion ReadsPage (contents_view l.page-iterator) → AllByRecursion ReadsPage (contents_view l.pages.entries);
}
