-- What a rollout is asked over: the flags, a request, and the inputs that were recorded.
use Rattle.std.specs.Prelude.{◌≡◌, ℕ, nat_lt, Bool, List, [], ◌∷◌, length, if◌then◌else◌, Option, Some, None, option_map, Result, Ok, Err}
use Rattle.book_core.specs.Book.{Contents}
use Rattle.book_core.specs.Reading.{book_of}
use Rattle.flag_defs.specs.Document.{Definitions}
use Rattle.flag_defs.specs.Flags.{flags_view}
use Rattle.flagops_files.specs.Documents.{IsDocumentAs}
use Rattle.flagops_shell.specs.Beginning.{first_line}
use Rattle.flagops_files.specs.Evidence.{IsEvidenceOf}
use Rattle.flagops_shell.specs.Files.{Holding, first_piece, load_book_of, load_notes_of, load_of}
use Rattle.flagops_files.specs.Loading.{max_text}
use Rattle.flagops_files.specs.Refusal.{Attempts, loads_book, loads_evidence, loads_file, loads_flags, Subjects, by}
use Rattle.flagops_files.specs.Told.{attempt, attempt_of, file}
use Rattle.flagops_files.specs.declared.book_question.BookQuestion as program_book
use Rattle.flagops_files.specs.declared.evidence.Evidence.{Evidence}
use Rattle.flagops_files.specs.declared.question.Question as program
use Rattle.flagops_files.specs.declared.refusal.Refusal.{Refusal}
use Rattle.flagops_files.specs.declared.refusal.Refusal.TheVariants.{Load, LongBook, ReadBook}
use Rattle.flagops_shell.specs.Outcomes.{◌>>=◌, refused_by}

-- the flags, the bytes of the request, and the book or the tally of what was recorded
pub record Question : Type 0 where
  pub flags : Definitions
  pub request : List ℕ
  pub evidence : Evidence

-- the same, without where it lies in memory
abbrev pub question_view : program.Question → Question
question_view q = record { flags = flags_view q.flags; request = q.request; evidence = q.evidence }

-- the same over a book
pub record BookQuestion : Type 0 where
  pub flags : Definitions
  pub request : List ℕ
  pub book : Contents

abbrev pub book_question_view : program_book.BookQuestion → BookQuestion
book_question_view q = record { flags = flags_view q.flags; request = q.request; book = q.book }

-- the largest book file, in bytes
abbrev pub max_book : ℕ
max_book = 1099511627776

-- a larger book counts as unreadable
abbrev pub if_readable : List ℕ → Result (List ℕ) Refusal
if_readable bytes = if nat_lt max_book (length bytes) then Err LongBook else Ok bytes

-- the bytes of the book file at a path, as many as tell that it is none where it is none
unfoldable pub book_bytes_at : Holding → List ℕ → Result (List ℕ) Refusal
book_bytes_at at path = do
  bytes ← refused_by Load (load_book_of at path max_book)
  if_readable bytes

-- those of the file of a book or of note lines at a path, as many as tell that it is neither where lines that are none may be passed over
unfoldable pub notes_bytes_at : Holding → Bool → List ℕ → Result (List ℕ) Refusal
notes_bytes_at at passing path = do
  bytes ← refused_by Load (load_notes_of at passing path max_book)
  if_readable bytes

-- the book of the file at a path
unfoldable pub book_at : Holding → List ℕ → Result Contents Refusal
book_at at path = do
  whole ← book_bytes_at at path
  refused_by ReadBook (book_of whole)

-- an empty file, and one with the first line of a book, may become another book
abbrev pub if_replaceable : List ℕ → Result (Unit {0}) Refusal
if_replaceable [] = Ok tt
if_replaceable (b ∷ bs) = refused_by ReadBook (book_of (first_line (b ∷ bs))) >>= λ book. Ok tt

abbrev pub if_there : Option (List ℕ) → Result (Unit {0}) Refusal
if_there None = Ok tt
if_there (Some front) = if_replaceable front

-- whether the file at a path may become another book, by the piece that it begins with
unfoldable pub replaceable_at : Holding → List ℕ → Result (Unit {0}) Refusal
replaceable_at at path = if_there (option_map first_piece (at path))

-- what the file at a path records, or why it is neither a book nor a tally
unfoldable pub IsEvidenceAt : Holding → List ℕ → Result Evidence Refusal → Type 0
IsEvidenceAt at path r = IsEvidenceOf (book_bytes_at at path) r

-- with what was recorded, or its refusal
abbrev pub question_of : Definitions → List ℕ → Result Evidence Refusal → Result Question Refusal
question_of flags request evidence = evidence >>= λ e. Ok (record { flags = flags; request = request; evidence = e })

-- the question over these flags and a request, where it was loaded: then what was recorded is
abbrev pub IsQuestionWith : Holding → Definitions → Result (List ℕ) Refusal → List ℕ → Result Question Refusal → Type 0
IsQuestionWith at flags (Err e) evidence r = r ≡ Err e
IsQuestionWith at flags (Ok request) evidence r = (recorded : Result Evidence Refusal) × IsEvidenceAt at evidence recorded × (r ≡ question_of flags request recorded)

-- the question over these flags, where there are any: then the request is loaded
abbrev pub IsQuestionOver : Holding → Result Definitions Refusal → List ℕ → List ℕ → Result Question Refusal → Type 0
IsQuestionOver at (Err e) request evidence r = r ≡ Err e
IsQuestionOver at (Ok flags) request evidence r = IsQuestionWith at flags (refused_by Load (load_of at request max_text)) evidence r

-- the question over these flags: the request is loaded and then the book loaded and read
abbrev pub book_question_over : Holding → Result Definitions Refusal → List ℕ → List ℕ → Result BookQuestion Refusal
book_question_over at document request book = do
  flags ← document
  bytes ← refused_by Load (load_of at request max_text)
  contents ← book_at at book
  Ok (record { flags = flags; request = bytes; book = contents })

-- the files of a question, each with the refusals that are of it
abbrev pub question_subjects : List ℕ → List ℕ → List ℕ → Subjects
question_subjects document request evidence = (file document, by loads_flags) ∷ (file request, by loads_file) ∷ (file evidence, by loads_evidence) ∷ []

-- the same over a book
abbrev pub book_question_subjects : List ℕ → List ℕ → List ℕ → Subjects
book_question_subjects document request book = (file document, by loads_flags) ∷ (file request, by loads_file) ∷ (file book, by loads_book) ∷ []

-- the files of a question in the order in which they are read, each before the next
abbrev pub question_attempts : Bool → Holding → List ℕ → List ℕ → List ℕ → Attempts
question_attempts floats at document request evidence =
    attempt (file document) (IsDocumentAs floats at document) ∷ attempt_of (file request) (refused_by Load (load_of at request max_text)) ∷ attempt (file evidence) (IsEvidenceAt at evidence) ∷ []

-- the same over a book
abbrev pub book_question_attempts : Bool → Holding → List ℕ → List ℕ → List ℕ → Attempts
book_question_attempts floats at document request book =
    attempt (file document) (IsDocumentAs floats at document) ∷ attempt_of (file request) (refused_by Load (load_of at request max_text)) ∷ attempt_of (file book) (book_at at book) ∷ []

-- the question of the files at these paths, of which the document may have floats or may not, or why there is none
unfoldable pub IsQuestionAt : Bool → Holding → List ℕ → List ℕ → List ℕ → Result Question Refusal → Type 0
IsQuestionAt floats at path request evidence r = (document : Result Definitions Refusal) × IsDocumentAs floats at path document × IsQuestionOver at document request evidence r

-- the same over a book
unfoldable pub IsBookQuestionAt : Bool → Holding → List ℕ → List ℕ → List ℕ → Result BookQuestion Refusal → Type 0
IsBookQuestionAt floats at path request book r = (document : Result Definitions Refusal) × IsDocumentAs floats at path document × (r ≡ book_question_over at document request book)
