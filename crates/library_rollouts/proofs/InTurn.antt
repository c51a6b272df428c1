-- What is made of the files of a call, by what was read of each.
use Rattle.std.proofs.Common.{◌≡◌, ◌≢◌, ℕ, List, Result, Ok, Err, refl, sym, subst, ap}
use Rattle.flag_defs.specs.Document.{Definitions, DocumentMeans}
use Rattle.flag_defs.specs.declared.fault.DefFault.{DefFault}
use Rattle.flag_defs.specs.declared.fault.DefFault.TheVariants as document_fault
use Rattle.plan_text.specs.Answer.{Answer}
use Rattle.plan_text.specs.PlanFile.{answer_of}
use Rattle.plan_text.specs.declared.fault.PlanFileFault.{PlanFileFault}
use Rattle.plan_text.specs.declared.fault.PlanFileFault.TheVariants as plan_fault
use Rattle.rollout.specs.declared.fault.RolloutFault.{RolloutFault}
use Rattle.rollout.specs.declared.fault.RolloutFault.TheVariants as rollout_fault
use Rattle.rollout.specs.declared.verify_fault.VerifyFault.{VerifyFault}
use Rattle.rollout.specs.declared.verify_fault.VerifyFault.TheVariants as verdict
use Rattle.kept_document.specs.declared.fault.KeepFault.{KeepFault}
use Rattle.kept_document.specs.declared.fault.KeepFault.TheVariants as keep_fault
use Rattle.note_tallies.specs.Tally.{PageTally}
use Rattle.note_tallies.specs.declared.filter_fault.FilterFault.{FilterFault}
use Rattle.note_tallies.specs.declared.filter_fault.FilterFault.TheVariants as notes_fault
use Rattle.note_tallies.specs.Reading.{ReadsTally}
use Rattle.note_tallies.specs.declared.file_fault.TallyFileFault.{TallyFileFault}
use Rattle.note_tallies.specs.declared.file_fault.TallyFileFault.TheVariants as tally_fault
use Rattle.transport_core.specs.declared.fault.CheckFault.{CheckFault}
use Rattle.transport_core.specs.declared.fault.CheckFault.TheVariants as check_fault
use Rattle.library_rollouts.specs.Reading.{OfAnswer, OfFlags, OfTally, Outcomes, WithAnswer}
use Rattle.library_rollouts.specs.Refusal.{of_check, of_document, of_keep, of_notes, of_plan, of_rollout, of_tally, of_verdict}
use Rattle.library_rollouts.specs.Target.{Target, WithTarget}
use Rattle.library_rollouts.specs.Writing.{Makes}
use Rattle.library_rollouts.specs.declared.refusal.RolloutRefusal.{RolloutRefusal}
use Rattle.library_rollouts.specs.declared.refusal.RolloutRefusal.TheVariants.{WantOfMemory, Room as NoRoom}

-- ---- no file is refused for want of room

pub document_roomy : (f : DefFault) → of_document f ≢ NoRoom
document_roomy document_fault.WantOfMemory = λ e. cc
document_roomy document_fault.NotJson = λ e. cc
document_roomy document_fault.NoFlags = λ e. cc
document_roomy document_fault.TooLarge = λ e. cc

pub tally_roomy : (f : TallyFileFault) → of_tally f ≢ NoRoom
tally_roomy tally_fault.WantOfMemory = λ e. cc
tally_roomy tally_fault.Header = λ e. cc
tally_roomy tally_fault.Page = λ e. cc
tally_roomy (tally_fault.Line n) = λ e. cc
tally_roomy (tally_fault.Order n) = λ e. cc
tally_roomy tally_fault.Inputs = λ e. cc

pub plan_roomy : (f : PlanFileFault) → of_plan f ≢ NoRoom
plan_roomy plan_fault.WantOfMemory = λ e. cc
plan_roomy plan_fault.BadPlan = λ e. cc
plan_roomy plan_fault.TooLarge = λ e. cc

pub notes_roomy : (f : FilterFault) → of_notes f ≢ NoRoom
notes_roomy notes_fault.WantOfMemory = λ e. cc
notes_roomy (notes_fault.Line n) = λ e. cc
notes_roomy (notes_fault.Order n) = λ e. cc
notes_roomy notes_fault.TooMany = λ e. cc
notes_roomy (notes_fault.Mixed n) = λ e. cc

pub rollout_roomy : (f : RolloutFault) → of_rollout f ≢ NoRoom
rollout_roomy rollout_fault.WantOfMemory = λ e. cc
rollout_roomy (rollout_fault.Request f) = λ e. cc
rollout_roomy rollout_fault.UnknownFlag = λ e. cc
rollout_roomy rollout_fault.NoSite = λ e. cc
rollout_roomy rollout_fault.Computed = λ e. cc
rollout_roomy rollout_fault.UnknownVariant = λ e. cc
rollout_roomy rollout_fault.TotalsSum = λ e. cc
rollout_roomy rollout_fault.TotalTooLarge = λ e. cc
rollout_roomy rollout_fault.NoWeight = λ e. cc
rollout_roomy rollout_fault.TooLarge = λ e. cc
rollout_roomy rollout_fault.OtherTally = λ e. cc

check_roomy : (f : CheckFault) → of_check f ≢ NoRoom
check_roomy check_fault.WantOfMemory = λ e. cc
check_roomy check_fault.Weight = λ e. cc
check_roomy check_fault.Totals = λ e. cc
check_roomy (check_fault.Forbidden p) = λ e. cc
check_roomy (check_fault.Slack name count variant) = λ e. cc
check_roomy check_fault.Sum = λ e. cc
check_roomy check_fault.Cost = λ e. cc
check_roomy check_fault.NotDeficient = λ e. cc
check_roomy check_fault.Groups = λ e. cc

pub verdict_roomy : (f : VerifyFault) → of_verdict f ≢ NoRoom
verdict_roomy (verdict.Request f) = rollout_roomy f
verdict_roomy (verdict.Check f) = check_roomy f

pub keep_roomy : (f : KeepFault) → of_keep f ≢ NoRoom
keep_roomy keep_fault.WantOfMemory = λ e. cc
keep_roomy keep_fault.Shared = λ e. cc
keep_roomy keep_fault.TooLong = λ e. cc
keep_roomy keep_fault.Differs = λ e. cc

-- ---- what is made

module _ {A B : Type 0} (seen : A → B) where
  -- what is refused for this, where it is not want of memory
  pub refused : (Is : Result B RolloutRefusal → Type 0) (e : RolloutRefusal) (r : Result A RolloutRefusal) → r ≡ Err e → e ≢ NoRoom → (e ≢ WantOfMemory → Is (Err e)) → Makes seen Is r
  refused Is e r is roomy means = subst (Makes seen Is) (sym is) (roomy, means)

  -- memory ran out
  pub wanted : (Is : Result B RolloutRefusal → Type 0) (r : Result A RolloutRefusal) → r ≡ Err WantOfMemory → Makes seen Is r
  wanted Is r is = refused Is WantOfMemory r is (λ e. cc) (λ other. absurd (other refl))

  pub no_flags : (document : List ℕ) (Next : Definitions → Outcomes B) (f : DefFault) (r : Result A RolloutRefusal) → r ≡ Err (of_document f) → (f ≢ document_fault.WantOfMemory → DocumentMeans document (Err f))
      → Makes seen (OfFlags document Next) r
  no_flags document Next f r is means = refused (OfFlags document Next) (of_document f) r is (document_roomy f) (λ other. (Err f, means (λ want. other (ap of_document want)), refl))

  pub with_flags : (document : List ℕ) (Next : Definitions → Outcomes B) (flags : Definitions) (r : Result A RolloutRefusal) → DocumentMeans document (Ok flags) → Makes seen (Next flags) r → Makes seen (OfFlags document Next) r
  with_flags document Next flags (Ok a) means made = (Ok flags, means, made)
  with_flags document Next flags (Err e) means made = (made.0, λ other. (Ok flags, means, made.1 other))

  pub no_tally : (bytes : List ℕ) (Next : PageTally → Outcomes B) (f : TallyFileFault) (r : Result A RolloutRefusal) → r ≡ Err (of_tally f) → ReadsTally bytes (Err f) → Makes seen (OfTally bytes Next) r
  no_tally bytes Next f r is reads = refused (OfTally bytes Next) (of_tally f) r is (tally_roomy f) (λ other. (Err f, reads, refl))

  pub with_tally : (bytes : List ℕ) (Next : PageTally → Outcomes B) (t : PageTally) (r : Result A RolloutRefusal) → ReadsTally bytes (Ok t) → Makes seen (Next t) r → Makes seen (OfTally bytes Next) r
  with_tally bytes Next t (Ok a) reads made = (Ok t, reads, made)
  with_tally bytes Next t (Err e) reads made = (made.0, λ other. (Ok t, reads, made.1 other))

  pub no_answer : (bytes : List ℕ) (Next : Answer → Outcomes B) (f : PlanFileFault) (r : Result A RolloutRefusal) → r ≡ Err (of_plan f) → (f ≢ plan_fault.WantOfMemory → answer_of bytes ≡ Err f) → Makes seen (OfAnswer bytes Next) r
  no_answer bytes Next f r is reads =
      refused (OfAnswer bytes Next) (of_plan f) r is (plan_roomy f)
      (λ other. subst (λ (a : Result Answer PlanFileFault). WithAnswer Next a (Err (of_plan f))) (sym (reads (λ want. other (ap of_plan want)))) refl)

  pub with_answer : (bytes : List ℕ) (Next : Answer → Outcomes B) (answer : Answer) (r : Result A RolloutRefusal) → answer_of bytes ≡ Ok answer → Makes seen (Next answer) r → Makes seen (OfAnswer bytes Next) r
  with_answer bytes Next answer r reads made = subst (λ (a : Result Answer PlanFileFault). Makes seen (WithAnswer Next a) r) (sym reads) made

  pub no_target : (t : Result Target RolloutFault) (Next : Target → Outcomes B) (f : RolloutFault) (r : Result A RolloutRefusal) → r ≡ Err (of_rollout f) → (f ≢ rollout_fault.WantOfMemory → t ≡ Err f) → Makes seen (WithTarget Next t) r
  no_target t Next f r is means =
      refused (WithTarget Next t) (of_rollout f) r is (rollout_roomy f)
      (λ other. subst (λ (x : Result Target RolloutFault). WithTarget Next x (Err (of_rollout f))) (sym (means (λ want. other (ap of_rollout want)))) refl)

  pub with_target : (t : Result Target RolloutFault) (Next : Target → Outcomes B) (target : Target) (r : Result A RolloutRefusal) → t ≡ Ok target → Makes seen (Next target) r → Makes seen (WithTarget Next t) r
  with_target t Next target r is made = subst (λ (x : Result Target RolloutFault). Makes seen (WithTarget Next x) r) (sym is) made
