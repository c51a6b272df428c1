-- What is told of an answer.
use Rattle.std.proofs.Common.{◌≡◌, ◌≢◌, ℕ, List, Result, Ok, Err, refl, sym, subst, ap}
use Rattle.flag_defs.specs.Document.{Definitions}
use Rattle.plan_text.specs.Answer.{Answer}
use Rattle.plan_text.specs.PlanFile.{answer_of}
use Rattle.plan_text.specs.declared.fault.PlanFileFault.{PlanFileFault}
use Rattle.plan_text.specs.declared.fault.PlanFileFault.TheVariants as plan_fault
use Rattle.rollout.specs.CheckedTally.{IsTallyOutcome, IsTallyShown, tally_problem_of}
use Rattle.rollout.specs.Verified.{refining_for}
use Rattle.rollout.specs.declared.verify_fault.VerifyFault.{VerifyFault}
use Rattle.note_tallies.specs.Tally.{PageTally}
use Rattle.control_answers.specs.Check.{IsVerdictOn, WithAnswer, valid_text}
use Rattle.control_answers.specs.Refusal.{of_read, of_verdict}
use Rattle.control_answers.specs.Turns.{Gives, Outcomes}
use Rattle.control_answers.specs.declared.refusal.ControlRefusal.{ControlRefusal}
use Rattle.control_answers.proofs.Turns.{refused}

module _ {A B : Type 0} (seen : A → B) where
  pub no_answer : (bytes : List ℕ) (Next : Answer → Outcomes B) (f : PlanFileFault) (r : Result A ControlRefusal) → r ≡ Err (of_read f) → (f ≢ plan_fault.WantOfMemory → answer_of bytes ≡ Err f) → Gives seen (WithAnswer Next (answer_of bytes)) r
  no_answer bytes Next f r is reads =
      refused seen (WithAnswer Next (answer_of bytes)) (of_read f) r is
      (λ other. subst (λ (a : Result Answer PlanFileFault). WithAnswer Next a (Err (of_read f))) (sym (reads (λ want. other (ap of_read want)))) refl)

  pub with_answer : (bytes : List ℕ) (Next : Answer → Outcomes B) (answer : Answer) (r : Result A ControlRefusal) → answer_of bytes ≡ Ok answer → Gives seen (Next answer) r → Gives seen (WithAnswer Next (answer_of bytes)) r
  with_answer bytes Next answer r reads made = subst (λ (a : Result Answer PlanFileFault). Gives seen (WithAnswer Next a) r) (sym reads) made

module _ {A : Type 0} (seen : A → List ℕ) (flags : Definitions) (request : List ℕ) (answer : Answer) (t : PageTally) where
  pub wrong : (f : VerifyFault) (r : Result A ControlRefusal) → r ≡ Err (of_verdict f) → IsTallyOutcome (tally_problem_of (refining_for answer) flags request t) answer (Err f) → Gives seen (IsVerdictOn flags request answer t) r
  wrong f r is told = refused seen (IsVerdictOn flags request answer t) (of_verdict f) r is (λ other. (Err f, record { told = told; shown = tt }, refl))

pub right : (flags : Definitions) (request : List ℕ) (answer : Answer) (t : PageTally) (text : List ℕ) → IsTallyOutcome (tally_problem_of (refining_for answer) flags request t) answer (Ok tt) → IsTallyShown (tally_problem_of (refining_for answer) flags request t) answer
    → text ≡ valid_text answer → IsVerdictOn flags request answer t (Ok text)
right flags request answer t text told shown is = (Ok tt, record { told = told; shown = shown }, ap Ok is)
