-- What was loaded in turn and then drawn, as one report.
use Rattle.std.proofs.Common.{◌≡◌, ◌||◌, ℕ, List, Bool, is_some, true, false, Option, Some, None, IfSome, refl, sym, ap, ◌∙◌, subst}
use Rattle.std.specs.Prelude.{Result, Ok, Err}
use Rattle.flagops_rollouts.specs.Doubts.{doubt_of}
use Rattle.flagops_shell.specs.Files.{Holding}
use Rattle.flagops_rollouts.specs.Loaded.{plan_at, IsQuestionAt}
use Rattle.flagops_files.specs.Question.{Question}
use Rattle.flagops_files.specs.declared.refusal.Call.TheVariants as file
use Rattle.flagops_rollouts.specs.Refusal.{GivesOne, GivesUnlessWant, is_want, loads_plan, Refused}
use Rattle.flagops_rollouts.specs.declared.refusal.RolloutCall.TheVariants as call
use Rattle.flagops_shell.specs.Apart.{apart}
use Rattle.flagops_shell.specs.Outcomes.{beside}
use Rattle.flagops_shell.specs.Report.{outcome_view}
use Rattle.flagops_shell.specs.declared.outcome.Outcome.{Outcome}
use Rattle.flagops_rollouts.specs.declared.refusal.RolloutCall.{RolloutCall}
use Rattle.flagops_pictures.specs.Pictured.{IsDrawnOrDenied, IsPictureReport, IsPictured, drawn_report, picture_calls}
use Rattle.flagops_pictures.specs.Words.{Picturing}
use Rattle.plan_text.specs.Answer.{Answer}

-- two loads in turn, of which the first leaves the files as they are
joined : {P Q R : Holding → Type 0} (old kept : Option Holding) → kept ≡ old → IfSome old P → IfSome kept Q → ((at : Holding) → P at → Q at → R at) → IfSome old R
joined {P} {Q} {R} old kept same p q both = go old p (subst (λ (h : Option Holding). IfSome h Q) same q)
  where
    go : (h : Option Holding) → IfSome h P → IfSome h Q → IfSome h R
    go None a b = tt
    go (Some at) a b = both at a b

module _ (a : Picturing) (q : Question) (answer : Answer) where
  pictured_over : (at : Holding) (r : Result Outcome Refused) → IsQuestionAt a.floats at a.document a.request a.book (Ok q) → plan_at at a.plan ≡ Ok answer
      → GivesOne outcome_view r (IsPictured a.refine (Ok q) (Ok answer)) → GivesOne outcome_view r (IsPictureReport at a)
  unfolding IsPictureReport
  pictured_over at (Ok o) asked answered drawn = (Ok q, asked, rw answered drawn)
  pictured_over at (Err e) asked answered drawn = λ no. (Ok q, asked, rw answered (drawn no))

  pub pictured : (old kept : Option Holding) (r : Result Outcome Refused) → kept ≡ old → IfSome old (λ at. IsQuestionAt a.floats at a.document a.request a.book (Ok q))
      → IfSome kept (λ at. plan_at at a.plan ≡ Ok answer) → GivesOne outcome_view r (IsPictured a.refine (Ok q) (Ok answer)) → IfSome old (λ at. GivesOne outcome_view r (IsPictureReport at a))
  pictured old kept r same asked answered drawn = joined old kept same asked answered (λ at x y. pictured_over at r x y drawn)

-- a plan file that is refused
module _ (a : Picturing) (q : Question) (e : Refused) where
  unanswered_over : (at : Holding) → IsQuestionAt a.floats at a.document a.request a.book (Ok q) → (is_want e.refusal ≡ false → plan_at at a.plan ≡ Err e.refusal) → is_want e.refusal ≡ false → IsPictureReport at a (Err e.refusal)
  unfolding IsPictureReport
  unanswered_over at asked refused no_want = (Ok q, asked, rw (refused no_want) refl)

  pub unanswered : (old kept : Option Holding) (r : Result Outcome Refused) → r ≡ Err e → kept ≡ old → IfSome old (λ at. IsQuestionAt a.floats at a.document a.request a.book (Ok q))
      → IfSome kept (λ at. is_want e.refusal ≡ false → plan_at at a.plan ≡ Err e.refusal) → IfSome old (λ at. GivesOne outcome_view r (IsPictureReport at a))
  unanswered old kept r is same asked refused =
      subst (λ (s : Result Outcome Refused). IfSome old (λ at. GivesOne outcome_view s (IsPictureReport at a))) (sym is) (joined old kept same asked refused unanswered_over)

-- the calls that loading a plan file makes are calls of the command
pub plan_comes : (c : RolloutCall) → loads_plan c ≡ true → picture_calls c ≡ true
plan_comes (call.Load file.Load) e = refl
plan_comes (call.Load file.ReadPlanned) e = refl
plan_comes (call.Load file.ReadTree) e = apart e
plan_comes (call.Load file.ReadRule) e = apart e
plan_comes (call.Load file.ReadFlags) e = apart e
plan_comes (call.Load file.ReadBook) e = apart e
plan_comes (call.Load file.ReadTally) e = apart e
plan_comes (call.Load file.Store) e = apart e
plan_comes call.Verify e = refl
plan_comes call.Apply e = apart e
plan_comes call.Plan e = apart e
plan_comes call.PrintPlanned e = apart e

-- no file failed in two loads, and what comes behind them reads none
or_false : (b : Bool) → (b || false) ≡ b
or_false true = refl
or_false false = refl

pub no_failure : (start first last failed : Bool) → first ≡ (start || false) → last ≡ (first || false) → failed ≡ false → last ≡ (start || failed)
no_failure start first last failed a b read = b ∙ (or_false first ∙ (a ∙ ap (λ (x : Bool). start || x) (sym read)))

-- the picture of an answer that is right, and whether a person is told something beside it
pub drawn_so : (refine : Option ℕ) (q : Question) (answer : Answer) (bytes : List ℕ) (r : Result Outcome Refused) → IsDrawnOrDenied refine q answer (Ok bytes)
    → GivesUnlessWant outcome_view r (beside (is_some (doubt_of q)) (drawn_report (Ok bytes))) → GivesOne outcome_view r (IsPictured refine (Ok q) (Ok answer))
drawn_so refine q answer bytes (Ok o) drawn given = (Ok bytes, drawn, sym given)
drawn_so refine q answer bytes (Err e) drawn given = λ no_want. (Ok bytes, drawn, sym (given no_want))
