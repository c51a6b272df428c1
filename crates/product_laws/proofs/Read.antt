-- A document whose numbers are all whole is loaded the same with floats and without.
use Rattle.std.proofs.Common.{◌≡◌, ℕ, Bool, List, Result, Ok, Err, refl}
use Rattle.flag_defs.specs.Document.{Definitions}
use Rattle.flagops_files.specs.Documents.{IsDocumentAs, IsDocumentInAs, IsDocumentOfAs}
use Rattle.flagops_files.specs.Loading.{max_text}
use Rattle.flagops_files.specs.Question as questions
use Rattle.flagops_files.specs.Question.{Question}
use Rattle.flagops_files.specs.declared.refusal.Refusal.{Refusal}
use Rattle.flagops_files.specs.declared.refusal.Refusal.TheVariants.{Load}
use Rattle.flagops_rollouts.specs.Loaded as rollouts
use Rattle.flagops_rollouts.specs.declared.refusal.RolloutRefusal.{RolloutRefusal}
use Rattle.flagops_shell.specs.Files.{Holding, load_of}
use Rattle.flagops_shell.specs.Outcomes.{◌>>=◌, refused_by}
use Rattle.flagops_shell.specs.declared.files.LoadFault.{LoadFault}
use Rattle.product_laws.specs.Documents.{MeaningsStay}
use Rattle.product_laws.specs.FloatWhole.{IsWholeText}
use Rattle.product_laws.specs.Whole.{IsWholeAt}

pub bind-same : {X Y E : Type 0} (f g : X → Result Y E) → ((x : X) → f x ≡ g x) → (m : Result X E) → (m >>= f) ≡ (m >>= g)
bind-same f g h (Ok x) = h x
bind-same f g h (Err e) = refl

module _ (meanings : MeaningsStay) where
  pub in_so : (floats other : Bool) (bytes : List ℕ) (r : Result Definitions Refusal) → IsWholeText bytes → IsDocumentInAs floats bytes r → IsDocumentInAs other bytes r
  in_so floats other bytes r whole h = (h.0, meanings floats other bytes h.0 whole h.1, h.2)

  -- the document at a path
  pub document_so : (floats other : Bool) (at : Holding) (path : List ℕ) (r : Result Definitions Refusal) → IsWholeAt at path → IsDocumentAs floats at path r → IsDocumentAs other at path r
  unfolding IsDocumentAs
  document_so floats other at path r whole h = by (load_of at path max_text) refl h
    where
      by : (l : Result (List ℕ) LoadFault) → load_of at path max_text ≡ l → IsDocumentOfAs floats (refused_by Load l) r → IsDocumentOfAs other (refused_by Load l) r
      by (Ok bytes) is h = in_so floats other bytes r (whole bytes is) h
      by (Err e) is h = h

  -- the question that it is asked
  pub question_so : (floats other : Bool) (at : Holding) (path request evidence : List ℕ) (r : Result Question Refusal) → IsWholeAt at path
      → questions.IsQuestionAt floats at path request evidence r → questions.IsQuestionAt other at path request evidence r
  unfolding questions.IsQuestionAt
  question_so floats other at path request evidence r whole h = (h.0, document_so floats other at path h.0 whole h.1, h.2)

  -- and both of a command on rollouts
  pub rolled_document : (floats other : Bool) (at : Holding) (path : List ℕ) (r : Result Definitions RolloutRefusal) → IsWholeAt at path → rollouts.IsDocumentAt floats at path r → rollouts.IsDocumentAt other at path r
  unfolding rollouts.IsDocumentAt
  rolled_document floats other at path r whole h = (h.0, document_so floats other at path h.0 whole h.1, h.2)

  pub rolled_question : (floats other : Bool) (at : Holding) (path request evidence : List ℕ) (r : Result Question RolloutRefusal) → IsWholeAt at path
      → rollouts.IsQuestionAt floats at path request evidence r → rollouts.IsQuestionAt other at path request evidence r
  unfolding rollouts.IsQuestionAt
  rolled_question floats other at path request evidence r whole h = (h.0, question_so floats other at path request evidence h.0 whole h.1, h.2)
