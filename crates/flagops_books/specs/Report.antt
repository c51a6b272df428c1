-- What the command `book` comes to, and the book that it writes.
use Rattle.flagops_files.specs.declared.refusal.Refusal.{Refusal}
use Rattle.std.specs.Prelude.{◌≡◌, ◌⊎◌, ℕ, ◌==◌, Bool, true, false, if◌then◌else◌, List, [], ◌++◌, length, codes, decimal, Option, Some, IfSome, Result, Ok, Err, IsOk}
use Rattle.book_core.specs.Book.{Contents, input_count}
use Rattle.book_core.specs.Printing.{book_text}
use Rattle.flagops_files.specs.Losses.{losses_at}
use Rattle.flagops_books.specs.Attempts.{book_attempts}
use Rattle.flagops_books.specs.Stray.{stray_report}
use Rattle.flagops_books.specs.Told.{NamesFile, is_told}
use Rattle.flagops_books.specs.Union.{IsUnited, United, noted, stray}
use Rattle.flagops_books.specs.Words.{Uniting}
use Rattle.flagops_shell.specs.Files.{Holding, KeepsOthers, Stores}
use Rattle.flagops_shell.specs.Outcomes.{◌>>=◌, refused_by}
use Rattle.flagops_files.specs.Question.{replaceable_at}
use Rattle.flagops_books.specs.Refusal.{unwritable, Outcomes, Remarks}
use Rattle.flagops_books.specs.declared.refusal.BookRefusal.{BookRefusal}
use Rattle.flagops_books.specs.declared.refusal.BookRefusal.TheVariants.{Load, WouldLose}
use Rattle.flagops_files.specs.Told.{NamesFirst}
use Rattle.flagops_shell.specs.Diagnostic.{Says, remark_text}
use Rattle.flagops_shell.specs.declared.refused.Remark.{Remark}
use Rattle.note_lines.specs.Notes.{Notes, IsBookOf, no_notes}

-- how many inputs the book has, and of how many files it is
abbrev pub counts_text : ℕ → ℕ → List ℕ
counts_text inputs files = codes "inputs " ++ (decimal inputs ++ (codes "\nfiles " ++ (decimal files ++ codes "\n")))

-- a new book that lacks inputs of the old one is refused
abbrev pub unless_lost : ℕ → Result (Unit {0}) BookRefusal
unless_lost lost = if lost == 0 then Ok tt else Err (WouldLose lost)

-- whether a new book may be written over the one at a path: always where inputs may be lost, and else where none is
unfoldable pub replaces_at : Holding → List ℕ → Bool → Contents → Result (Unit {0}) BookRefusal
replaces_at at out true new = Ok tt
replaces_at at out false new = refused_by Load (losses_at at out new) >>= unless_lost

-- The file is written before the output, and no other file changes; none does where it may not be written, or is refused to be.
abbrev pub IsStored : Result (Unit {0}) BookRefusal → Holding → Option Holding → List ℕ → List ℕ → List ℕ → Bool → Outcomes
IsStored (Err e) at after out file text told r = (r ≡ Err e) × (after ≡ Some at)
IsStored (Ok free) at after out file text told r =
    ((r ≡ Ok (record { text = text; status = 0; is_told = told })) × Stores (Some at) after out file × KeepsOthers (Some at) after out)
    ⊎ ((r ≡ Err unwritable) × (after ≡ Some at))

-- the report of what so many files come to: the book of all that they note is written, or the files stay as they are
abbrev pub IsReported : Holding → Option Holding → List ℕ → Bool → ℕ → Result United BookRefusal → Outcomes
IsReported at after out lossy files (Err e) r = (r ≡ Err e) × (after ≡ Some at)
IsReported at after out lossy files (Ok (stray path n)) r = (r ≡ Ok (stray_report path n)) × (after ≡ Some at)
IsReported at after out lossy files (Ok (noted all told)) r =
    (book : Contents) × IsBookOf all book × IsStored (replaces_at at out lossy book) at after out (book_text book) (counts_text (input_count book) files) (is_told told) r

-- what files come to, where the file that is written may become a book, and else why it may not
abbrev pub IsUnitedWhere : Result (Unit {0}) Refusal → Holding → Uniting → Result United BookRefusal → Type 0
IsUnitedWhere (Err e) at u came = came ≡ Err (Load e)
IsUnitedWhere (Ok free) at u came = IsUnited at u.torn u.files no_notes [] came

-- the file that is written is looked at first: what is no book stays
unfoldable pub IsUnitedFor : Uniting → Holding → Result United BookRefusal → Type 0
IsUnitedFor u at came = IsUnitedWhere (replaceable_at at u.out) at u came

unfoldable pub IsBookReport : Holding → Option Holding → Uniting → Outcomes
IsBookReport at after u r = (came : Result United BookRefusal) × IsUnitedFor u at came × IsReported at after u.out u.replace (length u.files) came r

-- the files stay as they are; or the file that is written may become a book and no file that is read is refused, and it alone changes
abbrev pub LeavesUnited : Option Holding → Option Holding → Uniting → Type 0
LeavesUnited old new u = (new ≡ old) ⊎ (IfSome old (λ at. IsOk (replaceable_at at u.out) × (all : Notes) × (told : List ℕ) × IsUnited at u.torn u.files no_notes [] (Ok (noted all told))) × KeepsOthers old new u.out)

-- what a person is told of what the files come to: a line on each with lines that were passed over, in their order, or the file
-- with a line that is refused
abbrev pub TellsCame : Result United BookRefusal → Remark → Type 0
TellsCame (Err e) remark = ⊥
TellsCame (Ok (noted all told)) remark = remark_text remark ≡ told
TellsCame (Ok (stray path n)) remark = Says (NamesFile path) remark

abbrev pub TellsUnited : Uniting → Holding → Remark → Type 0
TellsUnited u at remark = (came : Result United BookRefusal) × IsUnitedFor u at came × TellsCame came remark

-- that, and of a refusal the name of the first that is refused
abbrev pub remark_of : Uniting → Holding → Remarks
remark_of u at (Ok report) remark = TellsUnited u at remark
remark_of u at (Err e) remark = NamesFirst (book_attempts at u) e remark
