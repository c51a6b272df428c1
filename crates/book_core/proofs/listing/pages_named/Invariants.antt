use Rattle.std.proofs.Common.{◌≡◌, ◌++◌, map}
use Rattle.book_core.specs.Book.{contents_view}
use Rattle.book_core.specs.Listing.{pages_of}
use Rattle.book_core.proofs.listing.pages_named.Given as goal

abbrev pub invariant-loop-page : goal.invariant-loop-page
invariant-loop-page l = map (λ p. p.now) l.named.items ++ pages_of l.flag (contents_view l.page-iterator) ≡ pages_of l.flag (contents_view l.pages.entries)
