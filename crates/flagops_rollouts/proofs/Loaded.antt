-- What was loaded, and a refusal to load it, as a command on rollouts has them.
use Rattle.std.proofs.Common.{◌≡◌, ◌∙◌, ap, ℕ, List, Option, IfSome, false, refl, ◌||◌, sym, Bool, true}
use Rattle.std.specs.Prelude.{Ok, Err}
use Rattle.flag_defs.specs.Document.{Definitions}
use Rattle.plan_text.specs.Answer.{Answer}
use Rattle.flagops_shell.proofs.Lifted.{given_one, given_so, not_want, refused_one, refused_so}
use Rattle.flagops_shell.specs.Diagnostic.{Says}
use Rattle.flagops_shell.specs.Files.{Holding}
use Rattle.flagops_files.proofs.Told.{told_of, told_of_one}
use Rattle.flagops_files.specs.Documents as documents
use Rattle.flagops_files.specs.PlanFile as plans
use Rattle.flagops_files.specs.Question as questions
use Rattle.flagops_files.specs.Question.{Question}
use Rattle.flagops_files.specs.Refusal as files
use Rattle.flagops_files.specs.declared.refusal.Call.{Call}
use Rattle.flagops_files.specs.Told.{NamesOne, NamesSubject, Subject}
use Rattle.flagops_rollouts.specs.Loaded.{IsDocumentAt, IsQuestionAt, plan_at, question_subjects}
use Rattle.flagops_rollouts.specs.Refusal.{Refused, call_of, is_unread, is_want, loads, unwritable}
use Rattle.flagops_rollouts.specs.declared.refusal.RolloutRefusal.TheVariants.{Load}

module _ (old : Option Holding) (path : List ℕ) where
  pub flags_there : (floats : Bool) (flags : Definitions) → IfSome old (λ at. documents.IsDocumentAs floats at path (Ok flags)) → IfSome old (λ at. IsDocumentAt floats at path (Ok flags))
  unfolding IsDocumentAt
  flags_there floats flags loaded = given_one files.is_want is_want Load (λ e. refl) (λ at. documents.IsDocumentAs floats at path) old flags loaded

  pub no_flags : (floats : Bool) (e : files.Refused) (t : Refused) → t.refusal ≡ Load e.refusal → IfSome old (λ at. files.is_want e.refusal ≡ false → documents.IsDocumentAs floats at path (Err e.refusal))
      → IfSome old (λ at. is_want t.refusal ≡ false → IsDocumentAt floats at path (Err t.refusal))
  unfolding IsDocumentAt
  no_flags floats e t is loaded = refused_one files.is_want is_want Load (λ e. refl) (λ at. documents.IsDocumentAs floats at path) old e t is loaded

  pub plan_there : (answer : Answer) → IfSome old (λ at. plans.plan_at at path ≡ Ok answer) → IfSome old (λ at. plan_at at path ≡ Ok answer)
  unfolding plan_at
  plan_there answer loaded = given_so files.is_want is_want Load (λ e. refl) (λ at. plans.plan_at at path) old answer loaded

  pub no_plan : (e : files.Refused) (t : Refused) → t.refusal ≡ Load e.refusal → IfSome old (λ at. files.is_want e.refusal ≡ false → plans.plan_at at path ≡ Err e.refusal)
      → IfSome old (λ at. is_want t.refusal ≡ false → plan_at at path ≡ Err t.refusal)
  unfolding plan_at
  no_plan e t is loaded = refused_so files.is_want is_want Load (λ e. refl) (λ at. plans.plan_at at path) old e t is loaded

module _ (floats : Bool) (old : Option Holding) (document request evidence : List ℕ) where
  pub question_there : (q : Question) → IfSome old (λ at. questions.IsQuestionAt floats at document request evidence (Ok q)) → IfSome old (λ at. IsQuestionAt floats at document request evidence (Ok q))
  unfolding IsQuestionAt
  question_there q loaded = given_one files.is_want is_want Load (λ e. refl) (λ at. questions.IsQuestionAt floats at document request evidence) old q loaded

  pub no_question : (e : files.Refused) (t : Refused) → t.refusal ≡ Load e.refusal → IfSome old (λ at. files.is_want e.refusal ≡ false → questions.IsQuestionAt floats at document request evidence (Err e.refusal))
      → IfSome old (λ at. is_want t.refusal ≡ false → IsQuestionAt floats at document request evidence (Err t.refusal))
  unfolding IsQuestionAt
  no_question e t is loaded = refused_one files.is_want is_want Load (λ e. refl) (λ at. questions.IsQuestionAt floats at document request evidence) old e t is loaded

-- ---- a refusal is told as it was

module _ (e : files.Refused) (t : Refused) where
  pub told : (subject : Subject) → t.refusal ≡ Load e.refusal → t.remark ≡ e.remark → (files.is_want e.refusal ≡ false → Says (NamesSubject subject) e.remark) → is_want t.refusal ≡ false → Says (NamesSubject subject) t.remark
  told subject is said named = told_of files.is_want is_want Load (λ e. refl) e t is said subject named

  pub told_question : (document request evidence : List ℕ) → t.refusal ≡ Load e.refusal → t.remark ≡ e.remark
      → (files.is_want e.refusal ≡ false → NamesOne (questions.question_subjects document request evidence) e.refusal e.remark) → is_want t.refusal ≡ false → NamesOne (question_subjects document request evidence) t.refusal t.remark
  told_question document request evidence is said named =
      told_of_one files.is_want is_want Load (λ e. refl) e t is said (questions.question_subjects document request evidence) (question_subjects document request evidence) (λ r remark named. named) named

  -- a file that is not written is refused as it was
  pub unwritten : t.refusal ≡ Load e.refusal → (files.is_want e.refusal ≡ false → e.refusal ≡ files.unwritable) → is_want t.refusal ≡ false → t.refusal ≡ unwritable
  unwritten is fault no_want = is ∙ ap Load (fault (not_want files.is_want is_want Load (λ e. refl) e t is no_want))

-- ---- what refused, and whether a file could not be read, is as it was

pub comes : (calls : Call → Bool) (e : files.Refused) (t : Refused) → t.refusal ≡ Load e.refusal → calls (files.call_of e.refusal) ≡ true → loads calls (call_of t.refusal) ≡ true
comes calls e t is came = ap (λ r. loads calls (call_of r)) is ∙ came

pub failed_load : (old new : Bool) (e : files.Refused) (t : Refused) → t.refusal ≡ Load e.refusal → new ≡ (old || files.is_unread e.refusal) → new ≡ (old || is_unread t.refusal)
failed_load old new e t is failed = failed ∙ ap (λ b. old || b) (sym (ap is_unread is))
