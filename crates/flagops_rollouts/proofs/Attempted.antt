-- The first of what a command attempts in turn that is refused.
use Rattle.std.proofs.Common.{◌≡◌, ℕ, Bool, false, List, [], ◌∷◌, ◌++◌, map, Option, Some, None, IfSome, inl, inr, refl, sym, subst}
use Rattle.std.specs.Prelude.{Result, Ok, Err}
use Rattle.flag_defs.specs.Document.{Definitions}
use Rattle.plan_text.specs.Answer.{Answer}
use Rattle.flagops_files.proofs.Succeeded.{question_succeed}
use Rattle.flagops_files.proofs.Told.{first_by_kind, first_left, first_right, succeed_within, told_of_first}
use Rattle.flagops_files.specs.Question as questions
use Rattle.flagops_files.specs.Question.{Question}
use Rattle.flagops_files.specs.Refusal as files
use Rattle.flagops_files.specs.Told.{AllSucceed, NamesFirst, NamesSubject, attempt, by_kind, file, within}
use Rattle.flagops_rollouts.specs.Attempts.{Attempts, TellsOfFirst, plan_read, question_attempts}
use Rattle.flagops_rollouts.specs.Loaded.{IsDocumentAt, IsQuestionAt, plan_at}
use Rattle.flagops_rollouts.specs.Refusal.{Refused, Subjects, TellsOfOne, is_want}
use Rattle.flagops_rollouts.specs.declared.refusal.RolloutRefusal.TheVariants.{Load}
use Rattle.flagops_shell.specs.Diagnostic.{Says}
use Rattle.flagops_shell.specs.Files.{Holding}

-- one of these is refused, and a person is told of the first
abbrev pub IsTold : Option Holding → Refused → (Holding → Attempts) → Type 0
IsTold old e attempts = IfSome old (λ at. is_want e.refusal ≡ false → NamesFirst (attempts at) e.refusal e.remark)

-- they succeed
abbrev pub HaveSucceeded : Option Holding → (Holding → Attempts) → Type 0
HaveSucceeded old attempts = IfSome old (λ at. AllSucceed (attempts at))

-- a file is refused as it was
pub lifted : (old : Option Holding) (xs : Holding → files.Attempts) (e : files.Refused) (t : Refused) → t.refusal ≡ Load e.refusal → t.remark ≡ e.remark → IfSome old (λ at. files.is_want e.refusal ≡ false → NamesFirst (xs at) e.refusal e.remark)
    → IsTold old t (λ at. map (within Load) (xs at))
lifted None xs e t is said names = tt
lifted (Some at) xs e t is said names = told_of_first files.is_want is_want Load (λ e. refl) e t is said (xs at) names

-- ---- what was read

differ : {X E Y : Type 0} {x : X} {e : E} → Ok x ≡ Err e → Y
differ same = cc

module _ (floats : Bool) (document request book : List ℕ) (q : Question) where
  question_there : (at : Holding) → IsQuestionAt floats at document request book (Ok q) → AllSucceed (question_attempts floats at document request book)
  unfolding IsQuestionAt
  question_there at (Err e, asked, same) = differ same
  question_there at (Ok given, asked, same) = succeed_within Load (questions.question_attempts floats at document request book) (question_succeed floats at document request book given asked)

  pub question_read : (old : Option Holding) → IfSome old (λ at. IsQuestionAt floats at document request book (Ok q)) → HaveSucceeded old (λ at. question_attempts floats at document request book)
  question_read None asked = tt
  question_read (Some at) asked = question_there at asked

pub document_read : (floats : Bool) (path : List ℕ) (flags : Definitions) (old : Option Holding) → IfSome old (λ at. IsDocumentAt floats at path (Ok flags)) → HaveSucceeded old (λ at. attempt (file path) (IsDocumentAt floats at path) ∷ [])
document_read floats path flags None there = tt
document_read floats path flags (Some at) there = ((flags, there), tt)

-- ---- what is refused

pub document_refused : (floats : Bool) (path : List ℕ) (e : Refused) (old : Option Holding) → IfSome old (λ at. is_want e.refusal ≡ false → IsDocumentAt floats at path (Err e.refusal)) → (is_want e.refusal ≡ false → Says (NamesSubject (file path)) e.remark)
    → IsTold old e (λ at. attempt (file path) (IsDocumentAt floats at path) ∷ [])
document_refused floats path e None refused says = tt
document_refused floats path e (Some at) refused says = λ wanted. inl (refused wanted, says wanted)

module _ {X : Type 0} (old : Option Holding) (xs : Holding → Attempts) where
  -- one of the first
  pub at_first : (ys : Holding → Attempts) (e : Refused) (r : Result X Refused) → r ≡ Err e → IsTold old e xs → IfSome old (λ at. TellsOfFirst (xs at ++ ys at) r)
  at_first ys e r is told = subst (λ (s : Result X Refused). IfSome old (λ at. TellsOfFirst (xs at ++ ys at) s)) (sym is) (go old told)
    where
      go : (h : Option Holding) → IsTold h e xs → IsTold h e (λ at. xs at ++ ys at)
      go None told = tt
      go (Some at) told = λ wanted. first_left (xs at) (ys at) e.refusal e.remark (told wanted)

  -- what is made of them
  pub behind : (ys : Subjects) (r : Result X Refused) → HaveSucceeded old xs → TellsOfOne ys r → IfSome old (λ at. TellsOfFirst (xs at ++ by_kind ys) r)
  behind ys r succeed told = go old r succeed told
    where
      go : (h : Option Holding) (s : Result X Refused) → HaveSucceeded h xs → TellsOfOne ys s → IfSome h (λ at. TellsOfFirst (xs at ++ by_kind ys) s)
      go None s succeed told = tt
      go (Some at) (Ok x) succeed told = tt
      go (Some at) (Err e) succeed told = λ wanted. first_right (xs at) (by_kind ys) e.refusal e.remark succeed (first_by_kind ys e.refusal e.remark (told wanted))

  -- the plan file behind them, of files that stay
  module _ (mid : Option Holding) (same : mid ≡ old) (answer : List ℕ) (ys : Subjects) where
    pub plan_refused : (e : Refused) (r : Result X Refused) → r ≡ Err e → HaveSucceeded old xs → IfSome mid (λ at. is_want e.refusal ≡ false → plan_at at answer ≡ Err e.refusal)
        → (is_want e.refusal ≡ false → Says (NamesSubject (file answer)) e.remark) → IfSome old (λ at. TellsOfFirst (xs at ++ plan_read at answer ys) r)
    plan_refused e r is succeed refused says =
        subst (λ (s : Result X Refused). IfSome old (λ at. TellsOfFirst (xs at ++ plan_read at answer ys) s)) (sym is)
        (go old succeed (subst (λ (h : Option Holding). IfSome h (λ at. is_want e.refusal ≡ false → plan_at at answer ≡ Err e.refusal)) same refused))
      where
        go : (h : Option Holding) → HaveSucceeded h xs → IfSome h (λ at. is_want e.refusal ≡ false → plan_at at answer ≡ Err e.refusal) → IsTold h e (λ at. xs at ++ plan_read at answer ys)
        go None succeed refused = tt
        go (Some at) succeed refused = λ wanted. first_right (xs at) (plan_read at answer ys) e.refusal e.remark succeed (inl (refused wanted, says wanted))

    -- and what is made of all
    pub behind_plan : (it : Answer) (r : Result X Refused) → HaveSucceeded old xs → IfSome mid (λ at. plan_at at answer ≡ Ok it) → TellsOfOne ys r → IfSome old (λ at. TellsOfFirst (xs at ++ plan_read at answer ys) r)
    behind_plan it r succeed there told = go old r succeed (subst (λ (h : Option Holding). IfSome h (λ at. plan_at at answer ≡ Ok it)) same there) told
      where
        go : (h : Option Holding) (s : Result X Refused) → HaveSucceeded h xs → IfSome h (λ at. plan_at at answer ≡ Ok it) → TellsOfOne ys s → IfSome h (λ at. TellsOfFirst (xs at ++ plan_read at answer ys) s)
        go None s succeed there told = tt
        go (Some at) (Ok x) succeed there told = tt
        go (Some at) (Err e) succeed there told = λ wanted. first_right (xs at) (plan_read at answer ys) e.refusal e.remark succeed (inr ((it, there), first_by_kind ys e.refusal e.remark (told wanted)))
