-- What was loaded in turn and then told, as one report.
use Rattle.std.proofs.Common.{◌≡◌, ◌∙◌, ◌||◌, ap, refl, true, false, ℕ, Bool, List, Option, Some, None, IfOk, IfSome, subst, sym}
use Rattle.std.specs.Prelude.{Result, Ok, Err}
use Rattle.flag_defs.specs.Document.{Definitions}
use Rattle.flag_defs.specs.Floats.{AreMarkedAs, Marks}
use Rattle.plan_text.specs.Answer.{Answer}
use Rattle.flagops_files.specs.Loading.{max_text}
use Rattle.flagops_rollouts.specs.Apply.{IsApplyReport, IsLocalReport, told_report}
use Rattle.flagops_rollouts.specs.Loaded.{IsDocumentAt, plan_at, IsQuestionAt}
use Rattle.flagops_shell.specs.Files.{Holding, load_of}
use Rattle.flagops_rollouts.specs.Plan.{IsPlanOf, IsPlanReport}
use Rattle.flagops_rollouts.specs.Refusal.{GivesOne, GivesUnlessWant, Refused, is_file_fault, is_unread, is_want}
use Rattle.flagops_files.specs.Question.{Question}
use Rattle.flagops_shell.specs.Report.{outcome_view}
use Rattle.flagops_rollouts.specs.Verify.{IsVerdict, IsVerifyReport}
use Rattle.flagops_shell.specs.declared.outcome.Outcome.{Outcome}

-- two loads in turn, of which the first leaves the files as they are
joined : {P Q R : Holding → Type 0} (old kept : Option Holding) → kept ≡ old → IfSome old P → IfSome kept Q → ((at : Holding) → P at → Q at → R at) → IfSome old R
joined {P} {Q} {R} old kept same p q both = go old p (subst (λ (h : Option Holding). IfSome h Q) same q)
  where
    go : (h : Option Holding) → IfSome h P → IfSome h Q → IfSome h R
    go None a b = tt
    go (Some at) a b = both at a b

module _ (floats : Bool) (document request book plan : List ℕ) (refine : Option ℕ) (strict json : Bool) (q : Question) (answer : Answer) where
  verified_over : (at : Holding) (r : Result Outcome Refused) → IsQuestionAt floats at document request book (Ok q) → plan_at at plan ≡ Ok answer
      → GivesOne outcome_view r (IsVerdict strict json refine (Ok q) (Ok answer)) → GivesOne outcome_view r (IsVerifyReport floats at document request book plan refine strict json)
  unfolding IsVerifyReport
  verified_over at (Ok o) asked answered told = (Ok q, asked, rw answered told)
  verified_over at (Err e) asked answered told = λ no. (Ok q, asked, rw answered (told no))

  pub verified : (old kept : Option Holding) (r : Result Outcome Refused) → kept ≡ old → IfSome old (λ at. IsQuestionAt floats at document request book (Ok q))
      → IfSome kept (λ at. plan_at at plan ≡ Ok answer) → GivesOne outcome_view r (IsVerdict strict json refine (Ok q) (Ok answer))
      → IfSome old (λ at. GivesOne outcome_view r (IsVerifyReport floats at document request book plan refine strict json))
  verified old kept r same asked answered told = joined old kept same asked answered (λ at a b. verified_over at r a b told)

-- a plan file that is refused
module _ (floats : Bool) (document request book plan : List ℕ) (refine : Option ℕ) (strict json : Bool) (q : Question) (e : Refused) where
  unanswered_over : (at : Holding) → IsQuestionAt floats at document request book (Ok q) → (is_want e.refusal ≡ false → plan_at at plan ≡ Err e.refusal) → is_want e.refusal ≡ false
      → IsVerifyReport floats at document request book plan refine strict json (Err e.refusal)
  unfolding IsVerifyReport
  unanswered_over at asked refused no_want = (Ok q, asked, rw (refused no_want) refl)

  pub unanswered : (old kept : Option Holding) (r : Result Outcome Refused) → r ≡ Err e → kept ≡ old → IfSome old (λ at. IsQuestionAt floats at document request book (Ok q))
      → IfSome kept (λ at. is_want e.refusal ≡ false → plan_at at plan ≡ Err e.refusal) → IfSome old (λ at. GivesOne outcome_view r (IsVerifyReport floats at document request book plan refine strict json))
  unanswered old kept r is same asked refused =
      subst (λ (s : Result Outcome Refused). IfSome old (λ at. GivesOne outcome_view s (IsVerifyReport floats at document request book plan refine strict json))) (sym is)
      (joined old kept same asked refused unanswered_over)

-- no file failed until the last of two steps
or_false : (b : Bool) → (b || false) ≡ b
or_false true = refl
or_false false = refl

pub failed_second : {X : Type 0} (start first last : Bool) (e : Refused) (r : Result X Refused) → r ≡ Err e → first ≡ (start || false) → last ≡ (first || is_unread e.refusal) → last ≡ (start || is_file_fault r)
failed_second {X} start first last e r is a b =
    let failed : last ≡ (start || is_unread e.refusal) = b ∙ ap (λ (x : Bool). x || is_unread e.refusal) (a ∙ or_false start) in
    subst (λ (s : Result X Refused). last ≡ (start || is_file_fault s)) (sym is) failed

module _ (floats : Bool) (document request book : List ℕ) (refine : Option ℕ) (strict explain : Bool) (q : Question) where
  planned_over : (at : Holding) (r : Result Outcome Refused) → IsQuestionAt floats at document request book (Ok q) → GivesOne outcome_view r (IsPlanOf strict explain refine (Ok q))
      → GivesOne outcome_view r (IsPlanReport floats at document request book refine strict explain)
  unfolding IsPlanReport
  planned_over at (Ok o) asked told = (Ok q, asked, told)
  planned_over at (Err e) asked told = λ no. (Ok q, asked, told no)

  pub planned : (old : Option Holding) (r : Result Outcome Refused) → IfSome old (λ at. IsQuestionAt floats at document request book (Ok q)) → GivesOne outcome_view r (IsPlanOf strict explain refine (Ok q))
      → IfSome old (λ at. GivesOne outcome_view r (IsPlanReport floats at document request book refine strict explain))
  planned None r asked told = tt
  planned (Some at) r asked told = planned_over at r asked told

module _ (floats : Bool) (path plan key : List ℕ) (site : ℕ) (strict : Bool) (document : List ℕ) (flags : Definitions) (marks : Marks) (answer : Answer) where
  applied_over : (at : Holding) (r : Result Outcome Refused) → AreMarkedAs floats document flags marks → IsDocumentAt floats at path (Ok flags) → load_of at path max_text ≡ Ok document → plan_at at plan ≡ Ok answer
      → GivesUnlessWant outcome_view r (told_report floats document flags marks key site strict answer) → IfOk r (λ o. IsLocalReport floats flags marks key site answer (outcome_view o)) → GivesOne outcome_view r (IsApplyReport floats at path plan key site strict)
  unfolding IsApplyReport
  applied_over at (Ok o) marked loaded bytes answered told local = (Ok flags, loaded, rw answered (document, bytes, marks, marked, (sym told, local)))
  applied_over at (Err e) marked loaded bytes answered told local = λ no. (Ok flags, loaded, rw answered (document, bytes, marks, marked, (sym (told no), tt)))

  pub applied : (old kept : Option Holding) (r : Result Outcome Refused) → AreMarkedAs floats document flags marks → kept ≡ old → IfSome old (λ at. IsDocumentAt floats at path (Ok flags)) → IfSome old (λ at. load_of at path max_text ≡ Ok document) → IfSome kept (λ at. plan_at at plan ≡ Ok answer)
      → GivesUnlessWant outcome_view r (told_report floats document flags marks key site strict answer) → IfOk r (λ o. IsLocalReport floats flags marks key site answer (outcome_view o)) → IfSome old (λ at. GivesOne outcome_view r (IsApplyReport floats at path plan key site strict))
  applied old kept r marked same loaded bytes answered told local = go old loaded bytes (subst (λ (h : Option Holding). IfSome h (λ at. plan_at at plan ≡ Ok answer)) same answered)
    where
      go : (h : Option Holding) → IfSome h (λ at. IsDocumentAt floats at path (Ok flags)) → IfSome h (λ at. load_of at path max_text ≡ Ok document) → IfSome h (λ at. plan_at at plan ≡ Ok answer) → IfSome h (λ at. GivesOne outcome_view r (IsApplyReport floats at path plan key site strict))
      go None loaded bytes answered = tt
      go (Some at) loaded bytes answered = applied_over at r marked loaded bytes answered told local
