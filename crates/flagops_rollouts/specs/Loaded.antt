-- What is loaded for a command on rollouts, where each refusal is one of these commands.
use Rattle.std.specs.Prelude.{ℕ, Bool, List, [], ◌∷◌, Result}
use Rattle.flag_defs.specs.Document.{Definitions}
use Rattle.plan_text.specs.Answer.{Answer}
use Rattle.flagops_shell.specs.Files.{Holding}
use Rattle.flagops_shell.specs.Outcomes.{Lifts, refused_by}
use Rattle.flagops_files.specs.Documents as documents
use Rattle.flagops_files.specs.PlanFile as plans
use Rattle.flagops_files.specs.Question as questions
use Rattle.flagops_files.specs.Question.{BookQuestion, Question}
use Rattle.flagops_files.specs.Refusal as files
use Rattle.flagops_files.specs.Told.{file}
use Rattle.flagops_rollouts.specs.Refusal.{Subjects, by, loads, loads_flags}
use Rattle.flagops_rollouts.specs.declared.refusal.RolloutRefusal.{RolloutRefusal}
use Rattle.flagops_rollouts.specs.declared.refusal.RolloutRefusal.TheVariants.{Load}

-- the flags of the document at a path, which may have floats or may not, or why there are none
unfoldable pub IsDocumentAt : Bool → Holding → List ℕ → Result Definitions RolloutRefusal → Type 0
IsDocumentAt floats at path r = Lifts Load (documents.IsDocumentAs floats at path) r

-- the answer that the plan file at a path holds
unfoldable pub plan_at : Holding → List ℕ → Result Answer RolloutRefusal
plan_at at path = refused_by Load (plans.plan_at at path)

-- the question of the files at these paths, of which the document may have floats or may not, or why there is none
unfoldable pub IsQuestionAt : Bool → Holding → List ℕ → List ℕ → List ℕ → Result Question RolloutRefusal → Type 0
IsQuestionAt floats at path request evidence r = Lifts Load (questions.IsQuestionAt floats at path request evidence) r

-- the same over a book
unfoldable pub IsBookQuestionAt : Bool → Holding → List ℕ → List ℕ → List ℕ → Result BookQuestion RolloutRefusal → Type 0
IsBookQuestionAt floats at path request book r = Lifts Load (questions.IsBookQuestionAt floats at path request book) r

-- the files of a question, each with the refusals that are of it
abbrev pub question_subjects : List ℕ → List ℕ → List ℕ → Subjects
question_subjects document request evidence = (file document, by loads_flags) ∷ (file request, by (loads files.loads_file)) ∷ (file evidence, by (loads files.loads_evidence)) ∷ []
