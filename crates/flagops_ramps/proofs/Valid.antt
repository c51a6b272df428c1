-- `verify-ramp` tells of what `ramp` printed that it is valid.
use Rattle.std.proofs.Common.{◌≡◌, ℕ, ◌+◌, ◌≤◌, Bool, false, true, List, length, nat_lt, cond, Option, Some, unwrap_or, Result, Ok, Err, refl, sym, ap, ◌∙◌, subst, arith}
use Rattle.std.proofs.Common.{inl, inr}
use Rattle.std.proofs.lemmas.Bool.{ltb-false}
use Rattle.std.proofs.lemmas.List.{take_all}
use Rattle.flagops_files.specs.Loading.{max_rule}
use Rattle.flagops_shell.specs.Outcomes.{refused_by}
use Rattle.flagops_files.specs.Question.{Question}
use Rattle.flagops_files.specs.declared.evidence.Evidence.{Evidence}
use Rattle.flagops_files.specs.declared.evidence.Evidence.TheVariants.{Book, Tally}
use Rattle.flagops_files.specs.declared.refusal.Refusal.TheVariants.{Load as Unread}
use Rattle.flagops_shell.specs.Files.{Holding, front_of}
use Rattle.flagops_shell.specs.Report.{Report}
use Rattle.plan_text.specs.Answer.{Answer}
use Rattle.ramp.specs.Laws as laws
use Rattle.ramp.specs.Ramp.{ArePlans}
use Rattle.ramp.specs.declared.fault.RampFault.{RampFault}
use Rattle.ramp.specs.declared.fault.RampFault.TheVariants.{Lines, Step}
use Rattle.ramp.specs.Steps.{steps_of}
use Rattle.ramp.specs.declared.file_fault.RampFileFault.{RampFileFault}
use Rattle.ramp.specs.declared.file_fault.RampFileFault.TheVariants.{TooLarge}
use Rattle.ramp.specs.declared.file_fault.StepsFault.{StepsFault}
use Rattle.flagops_rollouts.specs.Valid.{IsOfInputs}
use Rattle.flagops_ramps.specs.Judging.{Answered, Found, IsFoundOf, IsFoundOver, answers_at, found_as, if_loaded}
use Rattle.flagops_ramps.specs.Ramp.{Holds, IsRampOf, IsRampOver, recorded}
use Rattle.flagops_ramps.specs.Valid.{IsValid, IsValidRamp}
use Rattle.flagops_ramps.specs.Verify.{report_found}
use Rattle.flagops_ramps.specs.declared.refusal.RampRefusal.{RampRefusal}

-- ---- a file of a text that reads as answers

fits_by : (b : Bool) (r : Result (List Answer) RampFileFault) (answers : List Answer) → cond b (Err TooLarge) r ≡ Ok answers → b ≡ false
fits_by true r answers h = absurd (cc)
fits_by false r answers h = refl

saved : (at : Holding) (path text : List ℕ) (answers : List Answer) → at path ≡ Some text → Holds answers text → answers_at at path ≡ Ok answers
unfolding answers_at
saved at path text answers is holds =
    let fits : length text ≤ max_rule = ltb-false max_rule (length text) (fits_by (nat_lt max_rule (length text)) _ answers holds) in
    let loaded : front_of max_rule (at path) ≡ Ok text = ap (front_of max_rule) is ∙ ap Ok (take_all (max_rule + 1) text (omega (arith, fits))) in
    ap (λ r. if_loaded (refused_by Unread r)) loaded ∙ rw holds refl

-- ---- what is told of it

told_valid : (a : Answered) (told : Result (Unit {0}) RampFault) → laws.IsValid told → IsValid a.answers (report_found false (found_as a told))
told_valid a (Ok u) valid = (refl, refl)
told_valid a (Err Lines) valid = absurd valid
told_valid a (Err (Step n e)) valid = valid

-- the same of what the steps are planned on
of_inputs : (e : Evidence) → IsOfInputs e → laws.IsOfInputs (recorded e)
of_inputs (Book book) of = of
of_inputs (Tally tally) of = of

module _ (law : laws.RampsAreValid) (strict : Bool) (refine : Option ℕ) (q : Question) (report : Report) (of : IsOfInputs q.evidence) where
  found_valid : (requests : List (List ℕ)) (answers : List Answer) (found : Found) → ArePlans (Ok q.flags) (unwrap_or refine 1) requests (recorded q.evidence) answers → IsFoundOver refine q answers (Ok requests) found → IsValid answers (report_found false found)
  found_valid requests answers found plans (told, is_told, is) =
      subst (λ (f : Found). IsValid answers (report_found false f)) (sym is)
      (told_valid (record { question = q; requests = requests; answers = answers }) told (law refine (Ok q.flags) requests (recorded q.evidence) answers told (of_inputs q.evidence of) plans is_told))

  planned_valid : (requests : List (List ℕ)) (answers : List Answer) → steps_of q.request ≡ Ok requests → ArePlans (Ok q.flags) (unwrap_or refine 1) requests (recorded q.evidence) answers → Holds answers report.text → IsValidRamp refine q report.text
  planned_valid requests answers steps plans holds = record {
    answers = answers;
    holds = holds;
    valid = λ at path found is found_of.
        let read : IsFoundOf refine (Ok q) (Ok answers) found = subst (λ (r : Result (List Answer) RampRefusal). IsFoundOf refine (Ok q) r found) (saved at path report.text answers is holds) found_of in
        found_valid requests answers found plans (subst (λ (s : Result (List (List ℕ)) StepsFault). IsFoundOver refine q answers s found) steps read);
  }

  refused : {E X : Type 0} {x : X} {e : E} → Ok x ≡ Err e → ⊥
  refused h = cc

  over : (steps : Result (List (List ℕ)) StepsFault) → steps_of q.request ≡ steps → IsRampOver strict refine q steps (Ok report) → IsValidRamp refine q report.text
  over (Err e) is came = absurd (refused came)
  over (Ok requests) is (inl (answers, plans, came, holds)) = planned_valid requests answers is plans holds
  over (Ok requests) is (inr (e, before, came)) = absurd (refused came)

  pub ramps_are_valid : IsRampOf strict refine (Ok q) (Ok report) → IsValidRamp refine q report.text
  ramps_are_valid came = over (steps_of q.request) refl came
