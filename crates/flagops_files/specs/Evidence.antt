-- What was recorded, as a file has it: a book, or the tally of a page.
use Rattle.std.specs.Prelude.{◌≡◌, ◌≢◌, ℕ, nat_eq, Bool, true, false, List, codes, Result, Ok, Err}
use Rattle.std.specs.List.{starts_with}
use Rattle.book_core.specs.Book.{Contents}
use Rattle.book_core.specs.Reading.{book_of}
use Rattle.book_core.specs.declared.fault.BookFileFault.{BookFileFault}
use Rattle.note_tallies.specs.Tally.{PageTally}
use Rattle.note_tallies.specs.Reading.{ReadsTally}
use Rattle.note_tallies.specs.declared.file_fault.TallyFileFault.{TallyFileFault}
use Rattle.note_tallies.specs.declared.file_fault.TallyFileFault.TheVariants.{WantOfMemory}
use Rattle.flagops_shell.specs.Outcomes.{◌>>=◌, refused_by}
use Rattle.flagops_files.specs.declared.evidence.Evidence.{Evidence}
use Rattle.flagops_files.specs.declared.evidence.Evidence.TheVariants.{Book, Tally}
use Rattle.flagops_files.specs.declared.refusal.Refusal.{Refusal}
use Rattle.flagops_files.specs.declared.refusal.Refusal.TheVariants.{ReadBook, ReadTally}

-- what the first line of a tally begins with, and that of no book
abbrev pub tally_opening : List ℕ
tally_opening = codes "{\"tally\":"

-- the bytes begin as the file of a tally
abbrev pub begins_tally : List ℕ → Bool
begins_tally bytes = starts_with nat_eq bytes tally_opening

abbrev pub of_book : Result Contents BookFileFault → Result Evidence Refusal
of_book r = refused_by ReadBook r >>= λ book. Ok (Book book)

abbrev pub of_tally : Result PageTally TallyFileFault → Result Evidence Refusal
of_tally r = refused_by ReadTally r >>= λ tally. Ok (Tally tally)

-- the bytes are read as a tally, or as a book
abbrev pub IsReadAs : Bool → List ℕ → Result Evidence Refusal → Type 0
IsReadAs true bytes r = (tally : Result PageTally TallyFileFault) × ReadsTally bytes tally × (tally ≢ Err WantOfMemory) × (r ≡ of_tally tally)
IsReadAs false bytes r = r ≡ of_book (book_of bytes)

-- what bytes record that were loaded, as a tally where they begin as one; or why they are neither book nor tally
abbrev pub IsEvidenceOf : Result (List ℕ) Refusal → Result Evidence Refusal → Type 0
IsEvidenceOf (Err e) r = r ≡ Err e
IsEvidenceOf (Ok bytes) r = IsReadAs (begins_tally bytes) bytes r
