-- A question that was loaded, and a refusal to load it, as a command on rollouts has them.
use Rattle.std.proofs.Common.{◌≡◌, ◌∙◌, ◌||◌, ap, ℕ, Bool, false, true, List, Option, None, Some, IfSome, refl, sym}
use Rattle.std.specs.Prelude.{Ok, Err}
use Rattle.flagops_files.proofs.Told.{told_of_first}
use Rattle.flagops_files.specs.Question as questions
use Rattle.flagops_files.specs.Question.{Question}
use Rattle.flagops_files.specs.Refusal as files
use Rattle.flagops_files.specs.Told.{NamesFirst}
use Rattle.flagops_files.specs.declared.refusal.Call.{Call}
use Rattle.flagops_rollouts.specs.Attempts.{question_attempts}
use Rattle.flagops_rollouts.specs.Loaded.{IsQuestionAt}
use Rattle.flagops_rollouts.specs.Refusal.{Refused, call_of, is_unread, is_want, loads}
use Rattle.flagops_rollouts.specs.declared.refusal.RolloutRefusal.TheVariants.{Load}
use Rattle.flagops_shell.proofs.Lifted.{given_one, refused_one}
use Rattle.flagops_shell.specs.Files.{Holding}

module _ (floats : Bool) (document request book : List ℕ) where
  pub question_there : (old : Option Holding) (q : Question) → IfSome old (λ at. questions.IsQuestionAt floats at document request book (Ok q)) → IfSome old (λ at. IsQuestionAt floats at document request book (Ok q))
  unfolding IsQuestionAt
  question_there old q loaded = given_one files.is_want is_want Load (λ e. refl) (λ at. questions.IsQuestionAt floats at document request book) old q loaded

  pub no_question : (old : Option Holding) (e : files.Refused) (t : Refused) → t.refusal ≡ Load e.refusal → IfSome old (λ at. files.is_want e.refusal ≡ false → questions.IsQuestionAt floats at document request book (Err e.refusal))
      → IfSome old (λ at. is_want t.refusal ≡ false → IsQuestionAt floats at document request book (Err t.refusal))
  unfolding IsQuestionAt
  no_question old e t is loaded = refused_one files.is_want is_want Load (λ e. refl) (λ at. questions.IsQuestionAt floats at document request book) old e t is loaded

  -- the first of its files that is refused is named as it was
  pub named : (old : Option Holding) (e : files.Refused) (t : Refused) → t.refusal ≡ Load e.refusal → t.remark ≡ e.remark
      → IfSome old (λ at. files.is_want e.refusal ≡ false → NamesFirst (questions.question_attempts floats at document request book) e.refusal e.remark)
      → IfSome old (λ at. is_want t.refusal ≡ false → NamesFirst (question_attempts floats at document request book) t.refusal t.remark)
  named None e t is said names = tt
  named (Some at) e t is said names = told_of_first files.is_want is_want Load (λ e. refl) e t is said (questions.question_attempts floats at document request book) names

-- ---- what refused, and whether a file could not be read, is as it was

pub comes : (calls : Call → Bool) (e : files.Refused) (t : Refused) → t.refusal ≡ Load e.refusal → calls (files.call_of e.refusal) ≡ true → loads calls (call_of t.refusal) ≡ true
comes calls e t is came = ap (λ r. loads calls (call_of r)) is ∙ came

pub failed : (old new : Bool) (e : files.Refused) (t : Refused) → t.refusal ≡ Load e.refusal → new ≡ (old || files.is_unread e.refusal) → new ≡ (old || is_unread t.refusal)
failed old new e t is read = read ∙ ap (λ b. old || b) (sym (ap is_unread is))
