-- The calls that the command `book` makes, by the names that the lines of refusals have.
use Rattle.std.specs.Prelude.{Bool, true}
use Rattle.flagops_files.specs.Refusal as files
use Rattle.flagops_files.specs.declared.refusal.Call.{Call}
use Rattle.flagops_files.specs.declared.refusal.Call.TheVariants as file
use Rattle.flagops_books.specs.Refusal.{loads, loads_book, stores_file}
use Rattle.flagops_books.specs.declared.refusal.BookCall.{BookCall}
use Rattle.flagops_books.specs.declared.refusal.BookCall.TheVariants as call

-- those that uniting files makes
abbrev pub unites_files : BookCall → Bool
unites_files call.Book = true
unites_files c = loads_book c

-- the calls by which books are read and written
abbrev pub loads_and_stores : Call → Bool
loads_and_stores file.Store = true
loads_and_stores c = files.loads_book c

-- and those of the command
abbrev pub book_calls : BookCall → Bool
book_calls call.Book = true
book_calls c = loads loads_and_stores c

-- those by which it is known that a new book loses nothing
abbrev pub checks_losses : BookCall → Bool
checks_losses call.Book = true
checks_losses c = loads_book c

-- and those of writing a book that may be written
abbrev pub saves_book : BookCall → Bool
saves_book call.Book = true
saves_book c = stores_file c
