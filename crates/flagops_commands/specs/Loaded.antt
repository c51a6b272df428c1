-- What is loaded for a listed command, where each refusal is one of these commands.
use Rattle.std.specs.Prelude.{ℕ, Bool, List, Option, Result}
use Rattle.bucket_core.specs.Rule.{Entries}
use Rattle.book_core.specs.Book.{Contents}
use Rattle.flag_text.specs.Shape.{Shape}
use Rattle.flagops_shell.specs.Files.{Holding, load_of}
use Rattle.flagops_shell.specs.Outcomes.{Lifts, refused_by}
use Rattle.flagops_files.specs.Documents as documents
use Rattle.flagops_files.specs.Loading as loading
use Rattle.flagops_files.specs.Loading.{max_text}
use Rattle.flagops_files.specs.Question as questions
use Rattle.flagops_files.specs.declared.refusal.Refusal.TheVariants as file
use Rattle.flagops_commands.specs.declared.refusal.ListedRefusal.{ListedRefusal}
use Rattle.flagops_commands.specs.declared.refusal.ListedRefusal.TheVariants.{Load}

-- the bytes of the request or the key file at a path
abbrev pub bytes_at : Holding → List ℕ → Result (List ℕ) ListedRefusal
bytes_at at path = refused_by Load (refused_by file.Load (load_of at path max_text))

-- the tree of the file at a path
unfoldable pub tree_at : Holding → List ℕ → ℕ → Result Shape ListedRefusal
tree_at at path limit = refused_by Load (loading.tree_at at path limit)

-- the rule of the rule file at a path
unfoldable pub rule_at : Holding → List ℕ → Result Entries ListedRefusal
rule_at at path = refused_by Load (loading.rule_at at path)

-- what the rule of the rule file at a path gives a key: its point, and the name there
unfoldable pub choice_at : Holding → List ℕ → List ℕ → Result (ℕ × Option (List ℕ)) ListedRefusal
choice_at at path key = refused_by Load (loading.choice_at at path key)

-- the flags of the document at a path, which may have floats or may not, or why there are none
unfoldable pub AreFlagsAt : Bool → Holding → List ℕ → Result documents.Marked ListedRefusal → Type 0
AreFlagsAt floats at path r = Lifts Load (documents.AreFlagsAt floats at path) r

-- the book of the file at a path
unfoldable pub book_at : Holding → List ℕ → Result Contents ListedRefusal
book_at at path = refused_by Load (questions.book_at at path)

-- whether the file at a path may become another book, by the piece that it begins with
unfoldable pub replaceable_at : Holding → List ℕ → Result (Unit {0}) ListedRefusal
replaceable_at at path = refused_by Load (questions.replaceable_at at path)
