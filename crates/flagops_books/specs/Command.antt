-- What is known of the command `book`.
use Rattle.flagops_books.specs.Calls.{book_calls}
use Rattle.flagops_books.specs.Refusal.{call_name, call_of}
use Rattle.flagops_books.specs.Report.{IsBookReport, LeavesUnited, remark_of}
use Rattle.flagops_books.specs.Words.{Uniting, book_by, book_faults}
use Rattle.flagops_shell.specs.Described.{described}
use Rattle.flagops_books.specs.declared.refusal.BookRefusal.{BookRefusal}
use Rattle.flagops_shell.specs.Running.{Description}

-- its words, what it comes to over the files, and over those that it leaves, what a person is told of that, and its calls
abbrev pub description : Description Uniting BookRefusal
description = described call_name call_of book_by book_faults (λ u at after. IsBookReport at after u) remark_of (λ u. book_calls) (λ u old new. LeavesUnited old new u)
