-- What is answered, or told, of a step on flags.
use Rattle.std.proofs.Common.{◌≡◌, ℕ, List, Option, Result, Ok, Err, refl, sym, ap, ◌∙◌}
use Rattle.std.specs.Prelude.{OnOk}
use Rattle.book_core.specs.Book.{Contents}
use Rattle.flag_defs.specs.Flags.{AreFlags}
use Rattle.flag_defs.specs.Document.{Definitions}
use Rattle.plan_text.specs.Answer.{Answer}
use Rattle.plan_text.specs.declared.planned.Planned.{Planned}
use Rattle.rollout.specs.Lawful.{Problem}
use Rattle.rollout.specs.Plan.{IsPlanned, IsTallyPlanned}
use Rattle.rollout.specs.Refined.{problem_refined}
use Rattle.rollout.specs.CheckedTally.{TallyProblem, tally_problem_of}
use Rattle.rollout.specs.declared.fault.RolloutFault.{RolloutFault}
use Rattle.rollout.specs.declared.refining.Refining.TheVariants.{Times}
use Rattle.rollout.specs.declared.verify_fault.VerifyFault.{VerifyFault}
use Rattle.note_tallies.specs.Tally.{PageTally}
use Rattle.ramp.specs.Ramp.{AnswersStep, Recorded, in_book, in_tally}
use Rattle.ramp.specs.Right.{IsStepShown, IsStepTold, TellsStep}

module _ (flags : Definitions) (lawful : AreFlags flags) (m : ℕ) (request : List ℕ) where
  pub planned_step : (book : Contents) (r : Result Problem RolloutFault) (result : Result Planned RolloutFault) → problem_refined m flags request book ≡ r → IsPlanned r result → AnswersStep (Ok flags) m request (in_book book) result
  planned_step book (Ok p) (Ok planned) asks plan = record { flags = flags; stands = refl; lawful = lawful; plan = (p, asks, plan) }
  planned_step book (Ok p) (Err e) asks plan = λ other. absurd (other plan)
  planned_step book (Err f) (Ok planned) asks plan = absurd plan
  planned_step book (Err f) (Err e) asks plan = λ other. asks ∙ ap Err (sym (plan other))

  pub tally_step : (t : PageTally) (r : Result TallyProblem RolloutFault) (result : Result Planned RolloutFault) → tally_problem_of (Times m) flags request t ≡ r → IsTallyPlanned r result → AnswersStep (Ok flags) m request (in_tally t) result
  tally_step t (Ok p) (Ok planned) asks plan = record { flags = flags; stands = refl; lawful = lawful; plan = (p, asks, plan) }
  tally_step t (Ok p) (Err e) asks plan = λ other. absurd (other plan)
  tally_step t (Err f) (Ok planned) asks plan = absurd plan
  tally_step t (Err f) (Err e) asks plan = λ other. asks ∙ ap Err (sym (plan other))

pub told_step : (flags : Definitions) (refine : Option ℕ) (request : List ℕ) (recorded : Recorded) (answer : Answer) (result : Result (Unit {0}) VerifyFault)
    → IsStepTold (Ok flags) refine request recorded answer result → OnOk result (IsStepShown (Ok flags) refine request recorded answer) → TellsStep (Ok flags) refine request recorded answer result
told_step flags refine request recorded answer (Ok u) told shown = record { told = told; shown = shown }
told_step flags refine request recorded answer (Err e) told shown = λ _. told
