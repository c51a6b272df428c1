-- What the command `book` attempts in turn: a person is told of the first that is refused.
use Rattle.std.specs.Prelude.{ℕ, Bool, List, [], ◌∷◌, ◌++◌}
use Rattle.flagops_books.specs.Calls.{book_calls}
use Rattle.flagops_books.specs.Refusal.{Attempts, by}
use Rattle.flagops_books.specs.Union.{IsUnited}
use Rattle.flagops_books.specs.Words.{Uniting}
use Rattle.flagops_books.specs.declared.refusal.BookRefusal.TheVariants.{Load}
use Rattle.flagops_files.specs.Question.{replaceable_at}
use Rattle.flagops_files.specs.Told.{attempt, attempt_by, attempt_of, file}
use Rattle.flagops_shell.specs.Files.{Holding}
use Rattle.flagops_shell.specs.Outcomes.{refused_by}
use Rattle.note_lines.specs.Notes.{no_notes}

-- the files that are read behind these others, each with what it notes beside them
abbrev pub united_attempts : Holding → Bool → List (List ℕ) → List (List ℕ) → Attempts
united_attempts at passing before [] = []
united_attempts at passing before (path ∷ paths) = attempt (file path) (IsUnited at passing (before ++ path ∷ []) no_notes []) ∷ united_attempts at passing (before ++ path ∷ []) paths

-- the file that is written, once it may be known what to write
abbrev pub stored_attempts : List ℕ → Attempts
stored_attempts out = attempt_by (file out) (by book_calls) ∷ []

-- what comes before: whether that file may become a book, and the files that are read
abbrev pub read_attempts : Holding → Uniting → Attempts
read_attempts at u = attempt_of (file u.out) (refused_by Load (replaceable_at at u.out)) ∷ united_attempts at u.torn [] u.files

abbrev pub book_attempts : Holding → Uniting → Attempts
book_attempts at u = read_attempts at u ++ stored_attempts u.out
