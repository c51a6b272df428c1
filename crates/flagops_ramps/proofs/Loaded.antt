-- What comes of the files that were loaded.
use Rattle.std.proofs.Common.{◌≡◌, false, List, Vec, Global, Option, None, Some, Result, Ok, Err, ℕ, map, refl, ap, ◌∙◌, subst, sym}
use Rattle.std.specs.Prelude.{IfSome}
use Rattle.flagops_shell.specs.Files.{Holding, load_of}
use Rattle.flagops_files.specs.Loading.{max_rule}
use Rattle.flagops_shell.specs.Outcomes.{refused_by}
use Rattle.flagops_files.specs.Question.{IsQuestionAt, question_view}
use Rattle.flagops_files.specs.Refusal as files
use Rattle.flagops_shell.specs.Report.{outcome_view}
use Rattle.flagops_shell.specs.declared.outcome.Outcome.{Outcome}
use Rattle.flagops_files.specs.declared.question.Question.{Question}
use Rattle.flagops_files.specs.declared.refusal.Refusal.TheVariants.{Load as Unread}
use Rattle.flagops_files.specs.Refusal.{Refused}
use Rattle.plan_text.specs.Answer.{Answer, planned_view}
use Rattle.plan_text.specs.declared.planned.Planned.{Planned}
use Rattle.ramp.specs.Lines.{ramp_of}
use Rattle.flagops_ramps.specs.Judging.{IsFoundAt, IsFoundOf, answered_view, answers_at, if_loaded, read_as}
use Rattle.flagops_ramps.specs.Ramp.{IsRampOf, IsRampReport}
use Rattle.flagops_ramps.specs.Refusal.{is_want}
use Rattle.flagops_ramps.specs.Report.{GivesOne, GivesUnlessWant, Told}
use Rattle.flagops_ramps.specs.Verify.{IsVerdictReport, report_found}
use Rattle.flagops_ramps.specs.Words.{Ramping, Verifying}
use Rattle.flagops_ramps.specs.declared.judging.RightAnswers.{RightAnswers}
use Rattle.flagops_ramps.specs.declared.refusal.RampRefusal.{RampRefusal}
use Rattle.flagops_ramps.specs.declared.refusal.RampRefusal.TheVariants.{Load}

-- no memory ran out, as every other command sees it
pub not_want : (t : Told) (e : Refused) → t.refusal ≡ Load e.refusal → is_want t.refusal ≡ false → files.is_want e.refusal ≡ false
not_want t e is no_want = ap is_want (sym is) ∙ no_want

module _ (a : Ramping) where
  unloaded_at : (at : Holding) (e : Refused) (t : Told) → t.refusal ≡ Load e.refusal → files.GivesOne question_view (Err e) (IsQuestionAt a.floats at a.document a.steps a.book) → GivesOne outcome_view (Err t) (IsRampReport at a)
  unfolding IsRampReport
  unloaded_at at e t is asked = λ no_want. (Err e.refusal, asked (not_want t e is no_want), ap Err is)

  pub unloaded : (holding : Option Holding) (e : Refused) (t : Told) → t.refusal ≡ Load e.refusal → IfSome holding (λ at. files.GivesOne question_view (Err e) (IsQuestionAt a.floats at a.document a.steps a.book))
      → IfSome holding (λ at. GivesOne outcome_view (Err t) (IsRampReport at a))
  unloaded None e t is asked = tt
  unloaded (Some at) e t is asked = unloaded_at at e t is asked

  loaded_at : (at : Holding) (q : Question) (r : Result Outcome Told) → IsQuestionAt a.floats at a.document a.steps a.book (Ok (question_view q)) → GivesOne outcome_view r (IsRampOf a.strict a.refine (Ok (question_view q))) → GivesOne outcome_view r (IsRampReport at a)
  unfolding IsRampReport
  loaded_at at q (Ok o) asked gives = (Ok (question_view q), asked, gives)
  loaded_at at q (Err t) asked gives = λ no_want. (Ok (question_view q), asked, gives no_want)

  pub loaded : (holding : Option Holding) (q : Question) (r : Result Outcome Told) → IfSome holding (λ at. IsQuestionAt a.floats at a.document a.steps a.book (Ok (question_view q))) → GivesOne outcome_view r (IsRampOf a.strict a.refine (Ok (question_view q)))
      → IfSome holding (λ at. GivesOne outcome_view r (IsRampReport at a))
  loaded None q r asked gives = tt
  loaded (Some at) q r asked gives = loaded_at at q r asked gives

-- ---- and of answers

module _ (v : Verifying) where
  unasked_at : (at : Holding) (e : Refused) (t : Told) → t.refusal ≡ Load e.refusal → files.GivesOne question_view (Err e) (IsQuestionAt v.rollout.floats at v.rollout.document v.rollout.steps v.rollout.book) → GivesOne answered_view (Err t) (IsFoundAt at v)
  unfolding IsFoundAt
  unasked_at at e t is asked = λ no_want. (Err e.refusal, asked (not_want t e is no_want), ap Err is)

  pub unasked : (holding : Option Holding) (e : Refused) (t : Told) → t.refusal ≡ Load e.refusal → IfSome holding (λ at. files.GivesOne question_view (Err e) (IsQuestionAt v.rollout.floats at v.rollout.document v.rollout.steps v.rollout.book))
      → IfSome holding (λ at. GivesOne answered_view (Err t) (IsFoundAt at v))
  unasked None e t is asked = tt
  unasked (Some at) e t is asked = unasked_at at e t is asked

  judged_at : (at : Holding) (q : Question) (r : Result RightAnswers Told) → IsQuestionAt v.rollout.floats at v.rollout.document v.rollout.steps v.rollout.book (Ok (question_view q))
      → GivesOne answered_view r (IsFoundOf v.rollout.refine (Ok (question_view q)) (answers_at at v.ramp)) → GivesOne answered_view r (IsFoundAt at v)
  unfolding IsFoundAt
  judged_at at q (Ok a) asked gives = (Ok (question_view q), asked, gives)
  judged_at at q (Err t) asked gives = λ no_want. (Ok (question_view q), asked, gives no_want)

  pub judged : (old kept : Option Holding) (q : Question) (r : Result RightAnswers Told) → kept ≡ old → IfSome old (λ at. IsQuestionAt v.rollout.floats at v.rollout.document v.rollout.steps v.rollout.book (Ok (question_view q)))
      → IfSome kept (λ at. GivesOne answered_view r (IsFoundOf v.rollout.refine (Ok (question_view q)) (answers_at at v.ramp))) → IfSome old (λ at. GivesOne answered_view r (IsFoundAt at v))
  judged None kept q r same asked gives = tt
  judged (Some at) kept q r same asked gives =
      judged_at at q r asked (subst (λ (h : Option Holding). IfSome h (λ it. GivesOne answered_view r (IsFoundOf v.rollout.refine (Ok (question_view q)) (answers_at it v.ramp)))) same gives)

  -- what is reported of right answers
  reported_at : (at : Holding) (a : RightAnswers) (r : Result Outcome Told) → IsFoundAt at v (Ok (answered_view a)) → GivesUnlessWant outcome_view r (report_found v.rollout.strict (Ok (answered_view a))) → GivesOne outcome_view r (IsVerdictReport at v)
  unfolding IsVerdictReport
  reported_at at a (Ok o) found gives = (Ok (answered_view a), found, sym gives)
  reported_at at a (Err t) found gives = λ no_want. (Ok (answered_view a), found, sym (gives no_want))

  pub reported : (holding : Option Holding) (a : RightAnswers) (r : Result Outcome Told) → IfSome holding (λ at. IsFoundAt at v (Ok (answered_view a))) → GivesUnlessWant outcome_view r (report_found v.rollout.strict (Ok (answered_view a)))
      → IfSome holding (λ at. GivesOne outcome_view r (IsVerdictReport at v))
  reported None a r found gives = tt
  reported (Some at) a r found gives = reported_at at a r found gives

  -- and where they are refused
  refused_at : (at : Holding) (t : Told) → GivesOne answered_view (Err t) (IsFoundAt at v) → GivesOne outcome_view (Err t) (IsVerdictReport at v)
  unfolding IsVerdictReport
  refused_at at t found = λ no_want. (Err t.refusal, found no_want, refl)

  pub refused : (holding : Option Holding) (t : Told) → IfSome holding (λ at. GivesOne answered_view (Err t) (IsFoundAt at v)) → IfSome holding (λ at. GivesOne outcome_view (Err t) (IsVerdictReport at v))
  refused None t found = tt
  refused (Some at) t found = refused_at at t found

-- answers that were not read
pub unread : (holding : Option Holding) (path : List ℕ) (refine : Option ℕ) (q : Question) (t : Told) → IfSome holding (λ at. is_want t.refusal ≡ false → answers_at at path ≡ Err t.refusal)
    → IfSome holding (λ at. GivesOne answered_view (Err t) (IsFoundOf refine (Ok (question_view q)) (answers_at at path)))
unread None path refine q t answers = tt
unread (Some at) path refine q t answers = λ no_want. subst (λ (x : Result (List Answer) RampRefusal). IsFoundOf refine (Ok (question_view q)) x (Err t.refusal)) (sym (answers no_want)) refl

-- answers that were read
pub read_so : (holding : Option Holding) (path : List ℕ) (refine : Option ℕ) (q : Question) (answers : List Answer) (r : Result RightAnswers Told) → IfSome holding (λ at. answers_at at path ≡ Ok answers)
    → GivesOne answered_view r (IsFoundOf refine (Ok (question_view q)) (Ok answers)) → IfSome holding (λ at. GivesOne answered_view r (IsFoundOf refine (Ok (question_view q)) (answers_at at path)))
read_so None path refine q answers r is gives = tt
read_so (Some at) path refine q answers r is gives = subst (λ (x : Result (List Answer) RampRefusal). GivesOne answered_view r (IsFoundOf refine (Ok (question_view q)) x)) (sym is) gives

-- and whose steps are refused
pub read_unfound : (holding : Option Holding) (path : List ℕ) (refine : Option ℕ) (q : Question) (answers : List Answer) (e : RampRefusal) → IfSome holding (λ at. answers_at at path ≡ Ok answers) → (is_want e ≡ false → IsFoundOf refine (Ok (question_view q)) (Ok answers) (Err e))
    → IfSome holding (λ at. is_want e ≡ false → IsFoundOf refine (Ok (question_view q)) (answers_at at path) (Err e))
read_unfound None path refine q answers e is unfound = tt
read_unfound (Some at) path refine q answers e is unfound = λ no_want. subst (λ (x : Result (List Answer) RampRefusal). IsFoundOf refine (Ok (question_view q)) x (Err e)) (sym is) (unfound no_want)

-- ---- the bytes of answers

abbrev pub seen : Vec Planned Global → List Answer
seen v = map planned_view v.items

module _ (path : List ℕ) where
  not_loaded_at : (at : Holding) (e : Refused) (t : Told) → t.refusal ≡ Load e.refusal → files.GivesUnlessWant (λ (v : Vec ℕ Global). v.items) (Err e) (refused_by Unread (load_of at path max_rule)) → GivesUnlessWant seen (Err t) (answers_at at path)
  unfolding answers_at
  not_loaded_at at e t is bytes = λ no_want. ap if_loaded (bytes (not_want t e is no_want)) ∙ ap Err (sym is)

  pub not_loaded : (holding : Option Holding) (e : Refused) (t : Told) → t.refusal ≡ Load e.refusal → IfSome holding (λ at. files.GivesUnlessWant (λ (v : Vec ℕ Global). v.items) (Err e) (refused_by Unread (load_of at path max_rule)))
      → IfSome holding (λ at. GivesUnlessWant seen (Err t) (answers_at at path))
  not_loaded None e t is bytes = tt
  not_loaded (Some at) e t is bytes = not_loaded_at at e t is bytes

  loaded_so_at : (at : Holding) (bytes : List ℕ) (r : Result (Vec Planned Global) Told) → refused_by Unread (load_of at path max_rule) ≡ Ok bytes → GivesUnlessWant seen r (read_as (ramp_of bytes)) → GivesUnlessWant seen r (answers_at at path)
  unfolding answers_at
  loaded_so_at at bytes (Ok v) is loads = ap if_loaded is ∙ loads
  loaded_so_at at bytes (Err t) is loads = λ no_want. ap if_loaded is ∙ loads no_want

  pub loaded_so : (holding : Option Holding) (bytes : List ℕ) (r : Result (Vec Planned Global) Told) → IfSome holding (λ at. refused_by Unread (load_of at path max_rule) ≡ Ok bytes) → GivesUnlessWant seen r (read_as (ramp_of bytes))
      → IfSome holding (λ at. GivesUnlessWant seen r (answers_at at path))
  loaded_so None bytes r is loads = tt
  loaded_so (Some at) bytes r is loads = loaded_so_at at bytes r is loads
