-- Why the command `book` is refused, and the line that a refusal is written as.
use Rattle.std.specs.Prelude.{ℕ, Bool, true, false, List, [], codes, decimal, Result}
use Rattle.book_core.specs.declared.fault.BookFileFault.{BookFileFault}
use Rattle.flagops_shell.specs.Report.{want_line_of}
use Rattle.flagops_shell.specs.Diagnostic.{RemarksOf}
use Rattle.flagops_shell.specs.Ending as shell
use Rattle.flagops_shell.specs.Given as given
use Rattle.flagops_shell.specs.Outcomes as outcomes
use Rattle.flagops_shell.specs.declared.refused.Refused as refusals
use Rattle.flagops_files.specs.Payload.{number_item}
use Rattle.flagops_files.specs.Refusal as files
use Rattle.flagops_files.specs.Refusal.{line_with}
use Rattle.flagops_files.specs.Told as told
use Rattle.flagops_files.specs.declared.refusal.Call.{Call}
use Rattle.flagops_files.specs.declared.refusal.Refusal.TheVariants as file
use Rattle.flagops_books.specs.declared.refusal.BookCall.{BookCall}
use Rattle.flagops_books.specs.declared.refusal.BookCall.TheVariants as call
use Rattle.flagops_books.specs.declared.refusal.BookRefusal.{BookRefusal}
use Rattle.flagops_books.specs.declared.refusal.BookRefusal.TheVariants.{Load, WantOfMemory, FullBook, WouldLose}

abbrev pub call_name : BookCall → List ℕ
call_name (call.Load c) = files.call_name c
call_name call.Book = codes "book"

-- the call that refused
abbrev pub call_of : BookRefusal → BookCall
call_of (Load e) = call.Load (files.call_of e)
call_of WantOfMemory = call.Book
call_of FullBook = call.Book
call_of (WouldLose n) = call.Book

-- memory ran out
abbrev pub is_want : BookRefusal → Bool
is_want (Load e) = files.is_want e
is_want WantOfMemory = true
is_want FullBook = false
is_want (WouldLose n) = false

-- a file could not be read or written
abbrev pub is_unread : BookRefusal → Bool
is_unread (Load e) = files.is_unread e
is_unread e = false

abbrev pub unwritable : BookRefusal
unwritable = Load files.unwritable

-- bytes that are no book
abbrev pub read_refusal : BookFileFault → BookRefusal
read_refusal e = Load (file.ReadBook e)

-- so many inputs of a book would be lost
abbrev pub loss_line : ℕ → List ℕ
loss_line lost = line_with (codes "book") (decimal 3) (codes "WouldLose") (number_item lost)

abbrev pub line_of : BookRefusal → List ℕ
line_of (Load e) = files.line_of e
line_of WantOfMemory = want_line_of (codes "book")
line_of FullBook = line_with (codes "book") (decimal 2) (codes "PageFull") []
line_of (WouldLose lost) = loss_line lost

-- ---- by the type of these refusals

-- a refusal with what is told of it
abbrev pub Refused : Type 0
Refused = refusals.Refused BookRefusal

-- what a command may come to
abbrev pub Outcomes : Type 1
Outcomes = outcomes.Outcomes BookRefusal

-- a remark on what a command comes to says this of it
abbrev pub Remarks : Type 1
Remarks = RemarksOf BookRefusal

-- What was returned, seen by `seen`, is one of these, unless memory ran out.
abbrev pub GivesOne : {X Y : Type 0} → (X → Y) → Result X Refused → (Result Y BookRefusal → Type 0) → Type 0
GivesOne seen r Wanted = given.GivesOne is_want seen r Wanted

-- What was returned, seen by `seen`, is what the definition gives, unless memory ran out.
abbrev pub GivesUnlessWant : {X Y : Type 0} → (X → Y) → Result X Refused → Result Y BookRefusal → Type 0
GivesUnlessWant seen r wanted = given.GivesUnlessWant is_want seen r wanted

-- a refusal comes from one of these calls
abbrev pub ComesFrom : {X : Type 0} → (BookCall → Bool) → Result X Refused → Type 0
ComesFrom calls r = outcomes.ComesFrom call_of calls r

abbrev pub is_file_fault : {X : Type 0} → Result X Refused → Bool
is_file_fault r = shell.is_file_fault is_unread r

-- the refusals of these calls
abbrev pub by : (BookCall → Bool) → BookRefusal → Bool
by calls e = calls (call_of e)

-- a refusal is told by the name of what is refused
abbrev pub TellsOf : {X : Type 0} → told.Subject → Result X Refused → Type 0
TellsOf subject r = told.TellsOf is_want subject r

-- what is attempted in turn
abbrev pub Attempts : Type 1
Attempts = List (told.Attempt BookRefusal)

-- a refusal is that of the first of them that is refused, and is told by the name of what that is about
abbrev pub TellsOfFirst : {X : Type 0} → Attempts → Result X Refused → Type 0
TellsOfFirst attempts r = told.TellsOfFirst is_want attempts r

-- these calls, by which files are read or written
abbrev pub loads : (Call → Bool) → BookCall → Bool
loads calls (call.Load c) = calls c
loads calls c = false

-- those of a book
abbrev pub loads_book : BookCall → Bool
loads_book c = loads files.loads_book c

-- the call that writing a file makes
abbrev pub stores_file : BookCall → Bool
stores_file c = loads files.stores_file c
