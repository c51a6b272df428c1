-- What is reported of steps.
use Rattle.std.proofs.Common.{◌≡◌, ◌≢◌, ℕ, Bool, false, true, List, Option, Result, Ok, Err, unwrap_or, refl, sym, ap, ◌∙◌, subst, inl, inr}
use Rattle.std.specs.Prelude.{IfOk}
use Rattle.flag_defs.specs.Flags.{flags_view}
use Rattle.flagops_files.specs.Question.{Question, question_view}
use Rattle.flagops_shell.specs.Report.{outcome_view}
use Rattle.flagops_files.specs.declared.question.Question as program
use Rattle.flagops_shell.specs.declared.outcome.Outcome.{Outcome}
use Rattle.plan_text.specs.Answer.{Answer}
use Rattle.ramp.specs.Ramp.{ArePlans, IsRefused}
use Rattle.ramp.specs.Right.{IsTold}
use Rattle.ramp.specs.declared.fault.RampFault.{RampFault}
use Rattle.ramp.specs.declared.fault.StepFault.{StepFault}
use Rattle.ramp.specs.Steps.{steps_of}
use Rattle.ramp.specs.declared.file_fault.StepsFault.{StepsFault}
use Rattle.ramp.specs.declared.file_fault.StepsFault.TheVariants as steps
use Rattle.rollout.specs.declared.fault.RolloutFault.{RolloutFault}
use Rattle.rollout.specs.declared.fault.RolloutFault.TheVariants.{WantOfMemory}
use Rattle.rollout.specs.declared.verify_fault.VerifyFault.TheVariants.{Request}
use Rattle.flagops_rollouts.specs.Beside.{noted_with}
use Rattle.flagops_ramps.specs.Doubts.{beside, doubt_of_steps, settle}
use Rattle.flagops_ramps.specs.Judging.{Found, IsFoundOf, IsFoundOver, answered_view, refused_as}
use Rattle.flagops_ramps.specs.Ramp.{Holds, IsRampOf, IsRampOver, is_finer_ramp, of_steps, recorded, report_ramp}
use Rattle.flagops_ramps.specs.Refusal.{is_want}
use Rattle.flagops_ramps.specs.Report.{GivesOne, GivesUnlessWant, Told}
use Rattle.flagops_ramps.specs.declared.judging.RightAnswers.{RightAnswers}
use Rattle.flagops_ramps.specs.declared.refusal.RampRefusal.{RampRefusal}
use Rattle.flagops_ramps.specs.declared.refusal.RampRefusal.TheVariants.{Ramp, Verify}
use Rattle.flagops_ramps.specs.declared.refusal.StepCall.TheVariants as call

-- a refusal that is no want of memory is of a fault that is none
other_ramp : (t : RampRefusal) (f : RolloutFault) → t ≡ Ramp f → is_want t ≡ false → f ≢ WantOfMemory
other_ramp t f is no_want = λ want. let one : is_want t ≡ true = ap is_want is ∙ ap (λ x. is_want (Ramp x)) want in cc

pub other_verify : (t : RampRefusal) (f : RolloutFault) → t ≡ Verify (Request f) → is_want t ≡ false → f ≢ WantOfMemory
other_verify t f is no_want = λ want. let one : is_want t ≡ true = ap is_want is ∙ ap (λ x. is_want (Verify (Request x))) want in cc

pub other_steps : (e : StepsFault) → of_steps e ≢ WantOfMemory → e ≢ steps.WantOfMemory
other_steps e other = λ want. other (ap of_steps want)

module _ (strict : Bool) (refine : Option ℕ) (q : Question) where
  pub planned_report : (requests : List (List ℕ)) (answers : List Answer) (r : Result Outcome Told) → ArePlans (Ok q.flags) (unwrap_or refine 1) requests (recorded q.evidence) answers → GivesUnlessWant outcome_view r (beside (noted_with (is_finer_ramp (unwrap_or refine 1) answers) (settle call.Ramp strict (doubt_of_steps q requests))) (report_ramp answers))
      → IfOk r (λ o. Holds answers o.text.items) → GivesOne outcome_view r (IsRampOver strict refine q (Ok requests))
  planned_report requests answers (Ok o) plans gives back = inl (answers, plans, sym gives, back)
  planned_report requests answers (Err t) plans gives back = λ no_want. inl (answers, plans, sym (gives no_want), tt)

  pub refused_report : (requests : List (List ℕ)) (e : StepFault) (t : Told) → t.refusal ≡ Ramp e.fault → (e.fault ≢ WantOfMemory → IsRefused (Ok q.flags) (unwrap_or refine 1) requests (recorded q.evidence) e) → GivesOne outcome_view (Err t) (IsRampOver strict refine q (Ok requests))
  refused_report requests e t is refused = λ no_want. inr (e, refused (other_ramp t.refusal e.fault is no_want), ap Err is)

  pub steps_report : (requests : List (List ℕ)) (r : Result Outcome Told) → steps_of q.request ≡ Ok requests → GivesOne outcome_view r (IsRampOver strict refine q (Ok requests)) → GivesOne outcome_view r (IsRampOf strict refine (Ok q))
  steps_report requests r is gives = subst (λ x. GivesOne outcome_view r (IsRampOver strict refine q x)) (sym is) gives

  pub steps_refused : (e : StepsFault) (t : Told) → t.refusal ≡ Ramp (of_steps e) → (e ≢ steps.WantOfMemory → steps_of q.request ≡ Err e) → GivesOne outcome_view (Err t) (IsRampOf strict refine (Ok q))
  steps_refused e t is refused = λ no_want.
      let none = refused (other_steps e (other_ramp t.refusal (of_steps e) is no_want)) in
      subst (λ x. IsRampOver strict refine q x (Err t.refusal)) (sym none) (ap Err is)

-- ---- answers

module _ (refine : Option ℕ) (q : Question) where
  pub found_right : (made : program.Question) (requests : List (List ℕ)) (answers : List Answer) → question_view made ≡ q → IsTold (Ok (flags_view made.flags)) refine requests (recorded made.evidence) answers (Ok tt)
      → IsFoundOver refine q answers (Ok requests) (Ok (record { question = question_view made; requests = requests; answers = answers }))
  found_right made requests answers same told =
      let as_found : Question → Found = λ it. Ok (record { question = it; requests = requests; answers = answers }) in
      (Ok tt, subst (λ (it : Question). IsTold (Ok it.flags) refine requests (recorded it.evidence) answers (Ok tt)) same told, ap as_found same)

  pub found_wrong : (made : program.Question) (requests : List (List ℕ)) (answers : List Answer) (e : RampFault) (t : Told) → question_view made ≡ q → IsTold (Ok (flags_view made.flags)) refine requests (recorded made.evidence) answers (Err e) → t.refusal ≡ refused_as e
      → GivesOne answered_view (Err t) (IsFoundOver refine q answers (Ok requests))
  found_wrong made requests answers e t same told refusal = λ no_want. (Err e, subst (λ (it : Question). IsTold (Ok it.flags) refine requests (recorded it.evidence) answers (Err e)) same told, ap Err refusal)

  pub steps_found : (requests : List (List ℕ)) (answers : List Answer) (r : Result RightAnswers Told) → steps_of q.request ≡ Ok requests → GivesOne answered_view r (IsFoundOver refine q answers (Ok requests)) → GivesOne answered_view r (IsFoundOf refine (Ok q) (Ok answers))
  steps_found requests answers r is gives = subst (λ x. GivesOne answered_view r (IsFoundOver refine q answers x)) (sym is) gives

  pub steps_unfound : (answers : List Answer) (e : StepsFault) (f : RolloutFault) → f ≡ of_steps e → (e ≢ steps.WantOfMemory → steps_of q.request ≡ Err e) → is_want (Verify (Request f)) ≡ false → IsFoundOf refine (Ok q) (Ok answers) (Err (Verify (Request f)))
  steps_unfound answers e f same refused no_want =
      let none = refused (other_steps e (λ want. other_verify (Verify (Request f)) f refl no_want (same ∙ want))) in
      subst (λ x. IsFoundOver refine q answers x (Err (Verify (Request f)))) (sym none) (ap (λ x. Err (Verify (Request x))) same)
