-- Which file is named where a command that draws is refused.
use Rattle.std.proofs.Common.{◌≡◌, ◌++◌, ℕ, Bool, false, List, Option, Some, None, Result, Ok, Err, IfSome, inl, inr, subst, sym}
use Rattle.flagops_files.proofs.Succeeded.{question_succeed}
use Rattle.flagops_files.proofs.Told.{first_by_kind, first_left, first_right, succeed_within}
use Rattle.flagops_files.specs.Question as questions
use Rattle.flagops_files.specs.Question.{Question}
use Rattle.flagops_files.specs.Told.{AllSucceed, NamesFirst, NamesSubject, by_kind, file}
use Rattle.flagops_pictures.specs.Diagnostics.{checked_subjects, drawn_subjects, picture_attempts, plan_attempts}
use Rattle.flagops_pictures.specs.Words.{Picturing, Planning}
use Rattle.flagops_rollouts.specs.Attempts.{Attempts, TellsOfFirst, plan_read, question_attempts}
use Rattle.flagops_rollouts.specs.Loaded.{IsQuestionAt, plan_at}
use Rattle.flagops_rollouts.specs.Refusal.{Refused, TellsOfOne, is_want}
use Rattle.flagops_rollouts.specs.declared.refusal.RolloutRefusal.TheVariants.{Load}
use Rattle.flagops_shell.specs.Diagnostic.{Says}
use Rattle.flagops_shell.specs.Files.{Holding}
use Rattle.flagops_shell.specs.declared.outcome.Outcome.{Outcome}
use Rattle.plan_text.specs.Answer.{Answer}

differ : {X E Y : Type 0} {x : X} {e : E} → Ok x ≡ Err e → Y
differ same = cc

succeeded : (floats : Bool) (at : Holding) (document request book : List ℕ) (q : Question) → IsQuestionAt floats at document request book (Ok q) → AllSucceed (question_attempts floats at document request book)
unfolding IsQuestionAt
succeeded floats at document request book q (Err e, is, same) = differ same
succeeded floats at document request book q (Ok given, is, same) = succeed_within Load (questions.question_attempts floats at document request book) (question_succeed floats at document request book given is)

-- a file of the question is refused, and what comes behind it is not looked at
pub in_question : (floats : Bool) (document request book : List ℕ) (behind : Holding → Attempts) (old : Option Holding) (r : Result Outcome Refused) (e : Refused) → r ≡ Err e
    → IfSome old (λ at. is_want e.refusal ≡ false → NamesFirst (question_attempts floats at document request book) e.refusal e.remark) → IfSome old (λ at. TellsOfFirst (question_attempts floats at document request book ++ behind at) r)
in_question floats document request book behind None r e is named = tt
in_question floats document request book behind (Some at) r e is named =
    subst (λ (s : Result Outcome Refused). TellsOfFirst (question_attempts floats at document request book ++ behind at) s) (sym is)
    (λ no_want. first_left (question_attempts floats at document request book) (behind at) e.refusal e.remark (named no_want))

-- ---- `picture`

module _ (a : Picturing) (q : Question) where
  -- the plan file is refused
  plan_at_fault : (at : Holding) (e : Refused) → IsQuestionAt a.floats at a.document a.request a.book (Ok q) → (is_want e.refusal ≡ false → plan_at at a.plan ≡ Err e.refusal)
      → (is_want e.refusal ≡ false → Says (NamesSubject (file a.plan)) e.remark) → is_want e.refusal ≡ false → NamesFirst (picture_attempts at a) e.refusal e.remark
  plan_at_fault at e asked refused says no_want =
      first_right (question_attempts a.floats at a.document a.request a.book) (plan_read at a.plan (checked_subjects a.request a.plan)) e.refusal e.remark
      (succeeded a.floats at a.document a.request a.book q asked) (inl (refused no_want, says no_want))

  pub in_plan : (old kept : Option Holding) (r : Result Outcome Refused) (e : Refused) → r ≡ Err e → kept ≡ old → IfSome old (λ at. IsQuestionAt a.floats at a.document a.request a.book (Ok q))
      → IfSome kept (λ at. is_want e.refusal ≡ false → plan_at at a.plan ≡ Err e.refusal) → (is_want e.refusal ≡ false → Says (NamesSubject (file a.plan)) e.remark)
      → IfSome old (λ at. TellsOfFirst (picture_attempts at a) r)
  in_plan old kept r e is same asked refused says =
      subst (λ (s : Result Outcome Refused). IfSome old (λ at. TellsOfFirst (picture_attempts at a) s)) (sym is)
      (go old asked (subst (λ (h : Option Holding). IfSome h (λ at. is_want e.refusal ≡ false → plan_at at a.plan ≡ Err e.refusal)) same refused))
    where
      go : (h : Option Holding) → IfSome h (λ at. IsQuestionAt a.floats at a.document a.request a.book (Ok q)) → IfSome h (λ at. is_want e.refusal ≡ false → plan_at at a.plan ≡ Err e.refusal)
          → IfSome h (λ at. is_want e.refusal ≡ false → NamesFirst (picture_attempts at a) e.refusal e.remark)
      go None asked refused = tt
      go (Some at) asked refused = plan_at_fault at e asked refused says

  -- the plan is not right
  checked_at : (at : Holding) (answer : Answer) (r : Result Outcome Refused) → IsQuestionAt a.floats at a.document a.request a.book (Ok q) → plan_at at a.plan ≡ Ok answer → TellsOfOne (checked_subjects a.request a.plan) r
      → TellsOfFirst (picture_attempts at a) r
  checked_at at answer (Ok o) asked answered names = tt
  checked_at at answer (Err e) asked answered names = λ no_want.
      first_right (question_attempts a.floats at a.document a.request a.book) (plan_read at a.plan (checked_subjects a.request a.plan)) e.refusal e.remark
      (succeeded a.floats at a.document a.request a.book q asked) (inr ((answer, answered), first_by_kind (checked_subjects a.request a.plan) e.refusal e.remark (names no_want)))

  pub in_check : (answer : Answer) (old kept : Option Holding) (r : Result Outcome Refused) → kept ≡ old → IfSome old (λ at. IsQuestionAt a.floats at a.document a.request a.book (Ok q)) → IfSome kept (λ at. plan_at at a.plan ≡ Ok answer)
      → TellsOfOne (checked_subjects a.request a.plan) r → IfSome old (λ at. TellsOfFirst (picture_attempts at a) r)
  in_check answer old kept r same asked answered names = go old asked (subst (λ (h : Option Holding). IfSome h (λ at. plan_at at a.plan ≡ Ok answer)) same answered)
    where
      go : (h : Option Holding) → IfSome h (λ at. IsQuestionAt a.floats at a.document a.request a.book (Ok q)) → IfSome h (λ at. plan_at at a.plan ≡ Ok answer) → IfSome h (λ at. TellsOfFirst (picture_attempts at a) r)
      go None asked answered = tt
      go (Some at) asked answered = checked_at at answer r asked answered names

-- ---- `plan --picture`

module _ (p : Planning) (q : Question) where
  planned_at : (at : Holding) (r : Result Outcome Refused) → IsQuestionAt p.floats at p.document p.request p.book (Ok q) → TellsOfOne (drawn_subjects p) r → TellsOfFirst (plan_attempts at p) r
  planned_at at (Ok o) asked names = tt
  planned_at at (Err e) asked names = λ no_want.
      first_right (question_attempts p.floats at p.document p.request p.book) (by_kind (drawn_subjects p)) e.refusal e.remark
      (succeeded p.floats at p.document p.request p.book q asked) (first_by_kind (drawn_subjects p) e.refusal e.remark (names no_want))

  pub in_planned : (old : Option Holding) (r : Result Outcome Refused) → IfSome old (λ at. IsQuestionAt p.floats at p.document p.request p.book (Ok q)) → TellsOfOne (drawn_subjects p) r
      → IfSome old (λ at. TellsOfFirst (plan_attempts at p) r)
  in_planned None r asked names = tt
  in_planned (Some at) r asked names = planned_at at r asked names
