-- What was planned over a tally, and told of it.
use Rattle.std.proofs.Common.{◌≡◌, ◌≢◌, ℕ, Bool, List, Result, Ok, Err, refl, sym, ap, ◌∙◌}
use Rattle.flag_defs.specs.Document.{Definitions}
use Rattle.plan_text.specs.Answer.{Answer, IsOrdered, planned_view}
use Rattle.plan_text.specs.PlanFile.{IsWhole, answer_of, plan_line}
use Rattle.plan_text.specs.declared.fault.PlanFileFault.{PlanFileFault}
use Rattle.plan_text.specs.declared.fault.PlanFileFault.TheVariants as plan_fault
use Rattle.plan_text.specs.declared.planned.Planned.{Planned}
use Rattle.rollout.specs.Plan.{IsTallyPlanned}
use Rattle.rollout.specs.CheckedTally.{IsTallyOutcome, IsTallyShown, tally_problem_of}
use Rattle.rollout.specs.Verified.{refining_for}
use Rattle.rollout.specs.declared.fault.RolloutFault.{RolloutFault}
use Rattle.rollout.specs.declared.refining.Refining.TheVariants.{Times}
use Rattle.rollout.specs.declared.verify_fault.VerifyFault.{VerifyFault}
use Rattle.note_tallies.specs.Tally.{PageTally}
use Rattle.library_rollouts.specs.Plan.{IsPlanOn, has_rule, line_report}
use Rattle.library_rollouts.specs.Refusal.{of_plan, of_rollout, of_verdict}
use Rattle.library_rollouts.specs.Verify.{IsVerdictOn, MayBeTold}
use Rattle.library_rollouts.specs.Writing.{Makes}
use Rattle.library_rollouts.specs.declared.refusal.RolloutRefusal.{RolloutRefusal}
use Rattle.library_rollouts.proofs.InTurn.{plan_roomy, refused, rollout_roomy, verdict_roomy}

module _ (flags : Definitions) (request : List ℕ) (tally : PageTally) where
  abbrev Answers : Result Planned RolloutFault → Type 0
  Answers planned = IsTallyPlanned (tally_problem_of (Times 1) flags request tally) planned

  pub printed : (p : Planned) (text : List ℕ) (fits : Bool) → Answers (Ok p) → IsOrdered (planned_view p) → IsWhole (planned_view p) → plan_line (planned_view p) ≡ Ok text → fits ≡ has_rule (planned_view p) → answer_of text ≡ Ok (planned_view p)
      → IsPlanOn request flags tally (Ok (text, fits))
  printed p text fits answers ordered whole line is reads =
      (Ok p, record { answers = answers; ordered = ordered; whole = whole }, ap (λ (b : Bool). Ok (text, b)) is ∙ ap (line_report (planned_view p)) (sym line), reads)

  module _ {A : Type 0} (seen : A → List ℕ × Bool) where
    pub unplanned : (f : RolloutFault) (r : Result A RolloutRefusal) → r ≡ Err (of_rollout f) → Answers (Err f) → Makes seen (IsPlanOn request flags tally) r
    unplanned f r is answers =
        refused seen (IsPlanOn request flags tally) (of_rollout f) r is (rollout_roomy f) (λ other. (Err f, record { answers = answers; ordered = tt; whole = tt }, refl, tt))

    pub unprinted : (p : Planned) (f : PlanFileFault) (r : Result A RolloutRefusal) → r ≡ Err (of_plan f) → Answers (Ok p) → IsOrdered (planned_view p) → IsWhole (planned_view p) → (f ≢ plan_fault.WantOfMemory → plan_line (planned_view p) ≡ Err f)
        → Makes seen (IsPlanOn request flags tally) r
    unprinted p f r is answers ordered whole line =
        refused seen (IsPlanOn request flags tally) (of_plan f) r is (plan_roomy f)
        (λ other. (Ok p, record { answers = answers; ordered = ordered; whole = whole }, ap (line_report (planned_view p)) (sym (line (λ want. other (ap of_plan want)))), tt))

  -- ---- verdicts

  module _ (answer : Answer) where
    abbrev Told : Result (Unit {0}) VerifyFault → Type 0
    Told verdict = IsTallyOutcome (tally_problem_of (refining_for answer) flags request tally) answer verdict

    pub told_wrong : (f : VerifyFault) → Told (Err f) → MayBeTold flags request tally answer (Err f)
    told_wrong f told = record { told = told; shown = tt }

    pub wrong : {A : Type 0} (seen : A → Unit {0}) (f : VerifyFault) (r : Result A RolloutRefusal) → r ≡ Err (of_verdict f) → Told (Err f) → Makes seen (IsVerdictOn request flags tally answer) r
    wrong seen f r is told = refused seen (IsVerdictOn request flags tally answer) (of_verdict f) r is (verdict_roomy f) (λ other. (Err f, told_wrong f told, refl))

    pub right : Told (Ok tt) → IsTallyShown (tally_problem_of (refining_for answer) flags request tally) answer → IsVerdictOn request flags tally answer (Ok tt)
    right told shown = (Ok tt, record { told = told; shown = shown }, refl)
