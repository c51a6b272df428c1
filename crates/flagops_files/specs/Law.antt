-- That a file which is judged by its first piece is judged as all of its bytes are.
use Rattle.std.specs.Prelude.{◌≡◌, ◌↔◌, ℕ, ◌≤◌, List, length, true, false, Some, Result, Ok, Err}
use Rattle.book_core.specs.Book.{Contents}
use Rattle.book_core.specs.Reading.{book_of}
use Rattle.book_core.specs.declared.fault.BookFileFault.TheVariants.{Header}
use Rattle.flagops_shell.specs.Beginning.{may_begin_record}
use Rattle.flagops_files.specs.Evidence.{IsReadAs, begins_tally}
use Rattle.flagops_shell.specs.Files.{Holding, first_piece}
use Rattle.flagops_shell.specs.Outcomes.{refused_by}
use Rattle.flagops_files.specs.Question.{IsEvidenceAt, book_at, max_book}
use Rattle.flagops_files.specs.declared.evidence.Evidence.{Evidence}
use Rattle.flagops_files.specs.declared.refusal.Refusal.{Refusal}
use Rattle.flagops_files.specs.declared.refusal.Refusal.TheVariants.{ReadBook}

-- the first piece of a book may begin a record
abbrev pub BooksMayBegin : Type 0
BooksMayBegin = (bytes : List ℕ) (book : Contents) → book_of bytes ≡ Ok book → may_begin_record (first_piece bytes) ≡ true

-- and so may that of what begins as a tally
abbrev pub TalliesMayBegin : Type 0
TalliesMayBegin = (bytes : List ℕ) → begins_tally bytes ≡ true → may_begin_record (first_piece bytes) ≡ true

-- the bytes are no tally, and refused for their first line as those of a book
pub record IsNoRecord (bytes : List ℕ) : Type 0 where
  pub no_tally : begins_tally bytes ≡ false
  pub refused : book_of bytes ≡ Err Header

-- Where the first piece of a file may begin no record, neither the file nor the piece alone is one.
abbrev pub OthersAreNoRecords : Type 0
OthersAreNoRecords = (bytes : List ℕ) → may_begin_record (first_piece bytes) ≡ false → IsNoRecord bytes × IsNoRecord (first_piece bytes)

-- of a file at a path, that is not above the limit: what is said of its book and of what it records is said of all its bytes
pub record IsOfAllBytes (at : Holding) (path bytes : List ℕ) : Type 0 where
  pub book : book_at at path ≡ refused_by ReadBook (book_of bytes)
  pub evidence : (r : Result Evidence Refusal) → IsEvidenceAt at path r ↔ IsReadAs (begins_tally bytes) bytes r

abbrev pub FilesAreReadWhole : Type 0
FilesAreReadWhole = (at : Holding) (path bytes : List ℕ) → at path ≡ Some bytes → length bytes ≤ max_book → IsOfAllBytes at path bytes
