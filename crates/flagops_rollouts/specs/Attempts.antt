-- What the commands on rollouts attempt in turn: a person is told of the first that is refused.
use Rattle.std.specs.Prelude.{ℕ, Bool, List, ◌∷◌, ◌++◌, map, Result}
use Rattle.flagops_files.specs.Question as questions
use Rattle.flagops_files.specs.Told as told
use Rattle.flagops_files.specs.Told.{attempt, attempt_of, by_kind, file, within, word}
use Rattle.flagops_rollouts.specs.Doubts.{doubt_subjects}
use Rattle.flagops_rollouts.specs.Loaded.{IsDocumentAt, plan_at}
use Rattle.flagops_rollouts.specs.Refusal.{Refused, Subjects, is_want}
use Rattle.flagops_rollouts.specs.Subjects.{applied_subjects, is_of_answer, is_of_kept_answer, is_of_kept_document, is_of_kept_request, is_of_request, is_of_size, the_plan}
use Rattle.flagops_rollouts.specs.declared.refusal.RolloutRefusal.{RolloutRefusal}
use Rattle.flagops_rollouts.specs.declared.refusal.RolloutRefusal.TheVariants.{Load}
use Rattle.flagops_shell.specs.Files.{Holding}

abbrev pub Attempts : Type 1
Attempts = List (told.Attempt RolloutRefusal)

-- a refusal is told by the name of what the first of them is about that is refused
abbrev pub TellsOfFirst : {X : Type 0} → Attempts → Result X Refused → Type 0
TellsOfFirst attempts r = told.TellsOfFirst is_want attempts r

-- the files of a question in the order in which they are read, each before the next
abbrev pub question_attempts : Bool → Holding → List ℕ → List ℕ → List ℕ → Attempts
question_attempts floats at document request evidence = map (within Load) (questions.question_attempts floats at document request evidence)

-- a plan file, and what is made of it and of what was read before it
abbrev pub plan_read : Holding → List ℕ → Subjects → Attempts
plan_read at answer made = attempt_of (file answer) (plan_at at answer) ∷ by_kind made

-- a question, and then its request, what is doubted of it, and the size of the plan
abbrev pub plan_attempts : Bool → Holding → List ℕ → List ℕ → List ℕ → Attempts
plan_attempts floats at document request book = question_attempts floats at document request book ++ by_kind ((file request, is_of_request) ∷ (word the_plan, is_of_size) ∷ doubt_subjects request book)

-- a question and the plan file, and then the request and the plan, and what is doubted
abbrev pub verify_attempts : Bool → Holding → List ℕ → List ℕ → List ℕ → List ℕ → Attempts
verify_attempts floats at document request book answer =
    question_attempts floats at document request book ++ plan_read at answer ((file request, is_of_request) ∷ (file answer, is_of_answer) ∷ doubt_subjects request book)

-- a document and the plan file, and then the plan's rule at the site, and what is left out of the document
abbrev pub apply_attempts : Bool → Holding → List ℕ → List ℕ → Attempts
apply_attempts floats at document answer = attempt (file document) (IsDocumentAt floats at document) ∷ plan_read at answer (applied_subjects document answer)

-- a question and the plan file, and then the request, the plan and the document, and what is doubted
abbrev pub keep_attempts : Bool → Holding → List ℕ → List ℕ → List ℕ → List ℕ → Attempts
keep_attempts floats at document answer request book =
    question_attempts floats at document request book
    ++ plan_read at answer ((file request, is_of_kept_request) ∷ (file answer, is_of_kept_answer) ∷ (file document, is_of_kept_document) ∷ doubt_subjects request book)
