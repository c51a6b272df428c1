-- A book by the bytes of its file.
use Rattle.std.specs.Prelude.{◌≡◌, ◌<◌, ℕ, List, [], Result, Ok, Err}
use Rattle.book_core.specs.Book.{Contents}
use Rattle.book_core.specs.Page.{PageName}
use Rattle.book_core.specs.Reading.{book_of}
use Rattle.book_core.specs.declared.fault.BookFileFault.{BookFileFault}
use Rattle.page_tally.specs.Tally.{page_counts}

-- the pages of a book, none of a file that is none
abbrev pub contents_in : Result Contents BookFileFault → Contents
contents_in (Ok book) = book
contents_in (Err fault) = []

-- the bytes are those of a book, and the counts those of one of its pages, at one total
pub record IsFile (bytes : List ℕ) (page : PageName) (total : ℕ) (counts : List ℕ) : Type 0 where
  pub some : 0 < total
  pub book : book_of bytes ≡ Ok (contents_in (book_of bytes))
  pub tally : counts ≡ page_counts page total (contents_in (book_of bytes))
