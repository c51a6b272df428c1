-- What a call comes to, by what was found before.
use Rattle.std.proofs.Common.{◌≡◌, ◌≢◌, ◌∙◌, ℕ, List, Result, Ok, Err, refl, sym, subst, ap}
use Rattle.flag_defs.specs.Document.{Definitions}
use Rattle.note_streams.specs.Tallies.{TalliesFiles}
use Rattle.note_streams.specs.declared.log_fault.LogTallyFault.{LogTallyFault}
use Rattle.rollout.specs.declared.fault.RolloutFault.{RolloutFault}
use Rattle.rollout.specs.declared.fault.RolloutFault.TheVariants as rollout_fault
use Rattle.note_tallies.specs.Tally.{PageTally}
use Rattle.control_answers.specs.Refusal.{of_logs, of_rollout}
use Rattle.control_answers.specs.Target.{Target, target_of}
use Rattle.control_answers.specs.Turns.{Gives, IsQuestion, OfFiles, Outcomes, WithTarget}
use Rattle.control_answers.specs.declared.question.Question as program
use Rattle.control_answers.specs.declared.refusal.ControlRefusal.{ControlRefusal}
use Rattle.control_answers.specs.declared.refusal.ControlRefusal.TheVariants.{WantOfMemory}

module _ {A B : Type 0} (seen : A → B) where
  -- what is refused for this, where it is not want of memory
  pub refused : (Is : Result B ControlRefusal → Type 0) (e : ControlRefusal) (r : Result A ControlRefusal) → r ≡ Err e → (e ≢ WantOfMemory → Is (Err e)) → Gives seen Is r
  refused Is e r is means = subst (Gives seen Is) (sym is) means

  -- memory ran out
  pub wanted : (Is : Result B ControlRefusal → Type 0) (r : Result A ControlRefusal) → r ≡ Err WantOfMemory → Gives seen Is r
  wanted Is r is = refused Is WantOfMemory r is (λ other. absurd (other refl))

  pub no_target : (t : Result Target RolloutFault) (Next : Target → Outcomes B) (f : RolloutFault) (r : Result A ControlRefusal) → r ≡ Err (of_rollout f) → (f ≢ rollout_fault.WantOfMemory → t ≡ Err f) → Gives seen (WithTarget Next t) r
  no_target t Next f r is means =
      refused (WithTarget Next t) (of_rollout f) r is
      (λ other. subst (λ (x : Result Target RolloutFault). WithTarget Next x (Err (of_rollout f))) (sym (means (λ want. other (ap of_rollout want)))) refl)

  -- the request is refused
  pub not_asked : (flags : Definitions) (request : List ℕ) (Next : Target → Outcomes B) (e : ControlRefusal) (r : Result A ControlRefusal) → r ≡ Err e → IsQuestion flags request (Err e) → Gives seen (WithTarget Next (target_of flags request)) r
  not_asked flags request Next e r is refuses =
      refused (WithTarget Next (target_of flags request)) e r is
      (λ other. let p = refuses other in subst (λ (x : Result Target RolloutFault). WithTarget Next x (Err e)) (sym p.1) (ap Err p.2))

  pub with_target : (t : Result Target RolloutFault) (Next : Target → Outcomes B) (target : Target) (r : Result A ControlRefusal) → t ≡ Ok target → Gives seen (Next target) r → Gives seen (WithTarget Next t) r
  with_target t Next target r is made = subst (λ (x : Result Target RolloutFault). Gives seen (WithTarget Next x) r) (sym is) made

  pub no_tally : (files : List (List ℕ)) (target : Target) (Next : PageTally → Outcomes B) (f : LogTallyFault) (r : Result A ControlRefusal) → r ≡ Err (of_logs f) → TalliesFiles files target.page target.total (Err f) → Gives seen (OfFiles files target Next) r
  no_tally files target Next f r is tallies = refused (OfFiles files target Next) (of_logs f) r is (λ other. (Err f, tallies, refl))

  pub with_tally : (files : List (List ℕ)) (target : Target) (Next : PageTally → Outcomes B) (t : PageTally) (r : Result A ControlRefusal) → TalliesFiles files target.page target.total (Ok t) → Gives seen (Next t) r → Gives seen (OfFiles files target Next) r
  with_tally files target Next t (Ok a) tallies made = (Ok t, tallies, made)
  with_tally files target Next t (Err e) tallies made = λ other. (Ok t, tallies, made other)

-- ---- a request that is read

-- memory ran out
pub no_memory : (flags : Definitions) (request : List ℕ) (r : Result program.Question ControlRefusal) → r ≡ Err WantOfMemory → IsQuestion flags request r
no_memory flags request r is = subst (IsQuestion flags request) (sym is) (λ other. absurd (other refl))

-- nothing can be tallied for it
pub no_question : (flags : Definitions) (request file : List ℕ) (f : RolloutFault) (r : Result program.Question ControlRefusal) → r ≡ Err (of_rollout f) → file ≡ request → (f ≢ rollout_fault.WantOfMemory → target_of flags file ≡ Err f) → IsQuestion flags request r
no_question flags request file f r is same means =
    subst (IsQuestion flags request) (sym is) (λ other. (f, ap (target_of flags) (sym same) ∙ means (λ want. other (ap of_rollout want)), refl))
