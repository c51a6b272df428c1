-- What is told of a plan.
use Rattle.std.proofs.Common.{◌≡◌, ◌≢◌, ℕ, List, true, is_ok, Result, Ok, Err, refl, sym, ap, subst}
use Rattle.flag_defs.specs.Document.{Definitions}
use Rattle.plan_text.specs.Answer.{planned_view}
use Rattle.plan_text.specs.PlanFile.{plan_file}
use Rattle.plan_text.specs.declared.fault.PlanFileFault.{PlanFileFault}
use Rattle.plan_text.specs.declared.fault.PlanFileFault.TheVariants as plan_fault
use Rattle.plan_text.specs.declared.planned.Planned.{Planned}
use Rattle.price_core.specs.Request.{Asked, asked_of}
use Rattle.price_core.specs.declared.fault.PriceFault.{PriceFault}
use Rattle.rollout.specs.Lawful.{and_then, by_price}
use Rattle.rollout.specs.Plan.{IsTallyPlanned}
use Rattle.rollout.specs.CheckedTally.{tally_problem_asked, tally_problem_of}
use Rattle.rollout.specs.declared.fault.RolloutFault.{RolloutFault}
use Rattle.rollout.specs.declared.refining.Refining.TheVariants.{Times}
use Rattle.note_tallies.specs.Tally.{PageTally}
use Rattle.control_answers.specs.Body.{Told, told_text}
use Rattle.control_answers.specs.Plan.{IsPlanOn, IsPrinted, IsTold}
use Rattle.control_answers.specs.Snapshot.{Snapshot}
use Rattle.control_answers.specs.Refusal.{of_printed, of_rollout}
use Rattle.control_answers.specs.Turns.{Gives}
use Rattle.control_answers.specs.declared.refusal.ControlRefusal.{ControlRefusal}
use Rattle.control_answers.proofs.Turns.{refused}

asked_if_planned : (flags : Definitions) (t : PageTally) (planned : Planned) (a : Result Asked PriceFault) → IsTallyPlanned (and_then (by_price a) (λ asked. tally_problem_asked (Times 1) flags asked t)) (Ok planned) → is_ok a ≡ true
asked_if_planned flags t planned (Ok asked) plans = refl
asked_if_planned flags t planned (Err f) plans = absurd plans

-- a request with a plan asks something
pub is_asked : (flags : Definitions) (request : List ℕ) (t : PageTally) (planned : Planned) → IsTallyPlanned (tally_problem_of (Times 1) flags request t) (Ok planned) → is_ok (asked_of request) ≡ true
is_asked flags request t planned plans = asked_if_planned flags t planned (asked_of request) plans

module _ (s : Snapshot) (request : List ℕ) (t : PageTally) where
  abbrev Plans : Result Planned RolloutFault → Type 0
  Plans planned = IsTallyPlanned (tally_problem_of (Times 1) s.flags request t) planned

  pub answered : (p : Planned) (plan : List ℕ) (told : Told) (body : List ℕ) → Plans (Ok p) → plan_file (planned_view p) ≡ Ok plan → IsTold s request t (planned_view p) plan told → body ≡ told_text told → IsPlanOn s request t (Ok body)
  answered p plan told body plans file is same =
      (Ok p, plans, subst (λ (f : Result (List ℕ) PlanFileFault). IsPrinted s request t (planned_view p) f (Ok body)) (sym file) (told, is, ap Ok same))

  module _ {A : Type 0} (seen : A → List ℕ) where
    pub unplanned : (f : RolloutFault) (r : Result A ControlRefusal) → r ≡ Err (of_rollout f) → Plans (Err f) → Gives seen (IsPlanOn s request t) r
    unplanned f r is plans = refused seen (IsPlanOn s request t) (of_rollout f) r is (λ other. (Err f, plans, refl))

    pub unprinted : (p : Planned) (f : PlanFileFault) (r : Result A ControlRefusal) → r ≡ Err (of_printed f) → Plans (Ok p) → (f ≢ plan_fault.WantOfMemory → plan_file (planned_view p) ≡ Err f) → Gives seen (IsPlanOn s request t) r
    unprinted p f r is plans file =
        refused seen (IsPlanOn s request t) (of_printed f) r is
        (λ other. (Ok p, plans, subst (λ (x : Result (List ℕ) PlanFileFault). IsPrinted s request t (planned_view p) x (Err (of_printed f))) (sym (file (λ want. other (ap of_printed want)))) refl))
