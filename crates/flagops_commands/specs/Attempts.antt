-- What each command attempts in turn: a person is told of the first that is refused.
use Rattle.std.specs.Prelude.{ℕ, Bool, List, [], ◌∷◌, ◌++◌, codes, map, Some, Result, Ok, Err}
use Rattle.flag_text.specs.Reading.{tree_of}
use Rattle.flagops_commands.specs.Drive.{before_at}
use Rattle.flagops_commands.specs.Loaded.{AreFlagsAt, choice_at, rule_at, tree_at}
use Rattle.flagops_commands.specs.Price.{request_at}
use Rattle.flagops_commands.specs.Refusal.{Refused, Remarks, is_want, no_tree}
use Rattle.flagops_commands.specs.Subjects.{driven_subjects, is_of_keys, is_of_rules, notes_of, numbers_of, old_weights, parts_of, written_subjects}
use Rattle.flagops_commands.specs.declared.refusal.ListedRefusal.{ListedRefusal}
use Rattle.flagops_commands.specs.declared.refusal.ListedRefusal.TheVariants.{Rollout}
use Rattle.flagops_files.specs.Loading.{max_text}
use Rattle.flagops_files.specs.Told as told
use Rattle.flagops_files.specs.Told.{NamesFirst, attempt, attempt_of, by_kind, file, within, word}
use Rattle.flagops_rollouts.specs.Attempts as rollouts
use Rattle.flagops_rollouts.specs.Attempts.{apply_attempts, keep_attempts, plan_attempts, verify_attempts}
use Rattle.flagops_shell.specs.Diagnostic.{Says}
use Rattle.flagops_shell.specs.Files.{Holding}
use Rattle.flagops_shell.specs.Outcomes.{refused_by}
use Rattle.flagops_words.specs.Asked.{Asked, bucket, price, resolve, verify, apply, keep, plan, drive, completions}

abbrev pub Attempts : Type 1
Attempts = List (told.Attempt ListedRefusal)

-- a refusal is told by the name of what the first of them is about that is refused
abbrev pub TellsOfFirst : {X : Type 0} → Attempts → Result X Refused → Type 0
TellsOfFirst attempts r = told.TellsOfFirst is_want attempts r

abbrev pub bucket_attempts : Holding → List ℕ → List ℕ → Attempts
bucket_attempts at rule key = attempt_of (file rule) (choice_at at rule key) ∷ []

-- both rules and the request, and then the file of the keys, and the weights of the rules
abbrev pub price_attempts : Holding → List ℕ → List ℕ → List ℕ → List ℕ → Attempts
price_attempts at old new request keys =
    attempt_of (file old) (rule_at at old) ∷ attempt_of (file new) (rule_at at new) ∷ attempt_of (file request) (request_at at request)
    ∷ by_kind ((file keys, is_of_keys) ∷ (word old_weights, is_of_rules) ∷ [])

-- a document, the default, which is read as a file's text is, and the context
abbrev pub resolve_attempts : Bool → Holding → List ℕ → List ℕ → List ℕ → Attempts
resolve_attempts floats at document default context =
    attempt (file document) (AreFlagsAt floats at document) ∷ attempt_of (word (codes "DEFAULT")) (refused_by no_tree (tree_of default max_text)) ∷ attempt_of (file context) (tree_at at context max_text) ∷ []

-- a document, the asks and the book before, and then what the asks come to, and the book that is written
abbrev pub drive_attempts : Bool → Holding → List ℕ → List ℕ → List ℕ → Bool → Attempts
drive_attempts floats at document asks book add =
    attempt (file document) (AreFlagsAt floats at document) ∷ attempt_of (file asks) (tree_at at asks max_text) ∷ attempt_of (file book) (before_at at book add)
    ∷ by_kind (driven_subjects asks book ++ written_subjects book)

-- those of a command on rollouts
abbrev pub rolled : rollouts.Attempts → Attempts
rolled attempts = map (within Rollout) attempts

abbrev pub attempts_of : Asked → Holding → Attempts
attempts_of (bucket rule key json) at = bucket_attempts at rule key
attempts_of (price old new request keys json) at = price_attempts at old new request keys
attempts_of (resolve document key kind default context moment floats) at = resolve_attempts floats at document default context
attempts_of (verify document request book answer refine strict json floats) at = rolled (verify_attempts floats at document request book answer)
attempts_of (plan document request book refine strict explain floats) at = rolled (plan_attempts floats at document request book)
attempts_of (apply document answer key site strict floats) at = rolled (apply_attempts floats at document answer)
attempts_of (keep document answer request book write refine strict floats) at = rolled (keep_attempts floats at document answer request book)
attempts_of (drive document asks workers book add replace strict json floats) at = drive_attempts floats at document asks book add
attempts_of (completions shell) at = []

-- the remark on what a command comes to over these files
abbrev pub remark_of : Asked → Holding → Remarks
remark_of asked at (Ok report) remark = Says (notes_of asked) remark × Says (numbers_of asked at report) remark × parts_of asked at report (Some remark)
remark_of asked at (Err e) remark = NamesFirst (attempts_of asked at) e remark
