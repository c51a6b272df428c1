-- How many inputs of one page of a book file fall on each point.
use Rattle.std.specs.Prelude.{ℕ, List, Result, Ok, Err}
use Rattle.book_core.specs.Book.{Contents, inputs_on}
use Rattle.book_core.specs.Counts.{counts_of}
use Rattle.book_core.specs.Page.{PageName}
use Rattle.book_core.specs.Reading.{book_of}
use Rattle.book_core.specs.declared.fault.BookFileFault.{BookFileFault}

-- for each point from 0 to the total, the number of the page's inputs that fall on it
abbrev pub page_counts : PageName → ℕ → Contents → List ℕ
page_counts page total book = counts_of (inputs_on book page) total

-- what a book gives, or the fault of its file
abbrev pub if_book : {X : Type 0} → (Contents → X) → Result Contents BookFileFault → Result X BookFileFault
if_book f (Ok book) = Ok (f book)
if_book f (Err fault) = Err fault

-- the tally of the page in the book of a file, or the file's first fault
unfoldable pub tally_of : List ℕ → PageName → ℕ → Result (List ℕ) BookFileFault
tally_of bytes page total = if_book (page_counts page total) (book_of bytes)
