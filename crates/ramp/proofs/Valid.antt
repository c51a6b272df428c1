-- What is planned is told as valid.
use Rattle.std.proofs.Common.{◌≡◌, ℕ, zero, suc, Bool, true, false, List, [], ◌∷◌, Option, None, Some, Result, Ok, Err, refl, subst}
use Rattle.std.specs.Prelude.{unwrap_or}
use Rattle.bucket_core.specs.Rule.{Entries}
use Rattle.flag_defs.specs.Document.{Definitions}
use Rattle.plan_text.specs.Answer.{Answer, emit, none_exists}
use Rattle.rollout.proofs.Verifies.{valid_plain, valid_refined, valid_rule}
use Rattle.rollout.specs.Tallied.{TalliesAskAsBooks}
use Rattle.rollout.specs.CheckedTally.{IsTallyOutcome, TallyProblem}
use Rattle.rollout.specs.VerifyFault.{is_want}
use Rattle.rollout.specs.declared.fault.RolloutFault.{RolloutFault}
use Rattle.rollout.specs.declared.verify_fault.VerifyFault.{VerifyFault}
use Rattle.note_tallies.specs.Tally.{PageTally}
use Rattle.transport_core.specs.Certificate.{DualPrices}
use Rattle.ramp.specs.Laws.{IsOfInputs, IsValid}
use Rattle.ramp.specs.Ramp.{ArePlans, IsPlanOn, IsStep, Recorded, Standing, in_book, in_tally, left_by, still}
use Rattle.ramp.specs.Right.{AreMiscounted, IsStepTold, IsTold, IsWrongAfter}
use Rattle.ramp.specs.declared.fault.RampFault.{RampFault}
use Rattle.ramp.specs.declared.fault.RampFault.TheVariants.{Lines, Step}
use Rattle.ramp.proofs.Tallied.{rule_again, told_of_plan}

-- what is told of a plan on a tally, where what it was planned for is checked
tally_valid : TalliesAskAsBooks → (t : PageTally) (of : IsOfInputs (in_tally t)) (m : ℕ) (flags : Definitions) (r : List ℕ) (a : Answer) (e : VerifyFault) (plan : IsPlanOn m flags r (in_tally t) a)
    → IsTallyOutcome (Ok plan.0) a (Err e) → is_want e ≡ true
tally_valid asks t of m flags r a e plan told =
    let it = told_of_plan asks t of.0 of.1 m flags r a plan e told in
    valid_refined m flags r _ it.0 a (Err e) it.1 it.2 it.3

-- what is told of a plan, on flags
flags_valid : TalliesAskAsBooks → (recorded : Recorded) → IsOfInputs recorded → (f : Option ℕ) (flags : Definitions) (r : List ℕ) (a : Answer) (e : VerifyFault)
    → IsPlanOn (unwrap_or f 1) flags r recorded a → IsStepTold (Ok flags) f r recorded a (Err e) → is_want e ≡ true
flags_valid asks (in_book book) of None flags r a e plan told = valid_plain flags r book plan.0 a (Err e) plan.1 plan.2 told
flags_valid asks (in_book book) of (Some m) flags r a e plan told = valid_refined m flags r book plan.0 a (Err e) plan.1 plan.2 told
flags_valid asks (in_tally t) of None flags r (emit rule c) e plan told =
    tally_valid asks t of 1 flags r (emit rule c) e plan (subst (λ (x : Result TallyProblem RolloutFault). IsTallyOutcome x (emit rule c) (Err e)) (rule_again asks t of.0 of.1 1 flags r rule c plan) told)
flags_valid asks (in_tally t) of None flags r (none_exists kind names) e plan told =
    tally_valid asks t of 1 flags r (none_exists kind names) e plan (subst (λ (x : Result TallyProblem RolloutFault). IsTallyOutcome x (none_exists kind names) (Err e)) plan.1 told)
flags_valid asks (in_tally t) of (Some m) flags r a e plan told = tally_valid asks t of m flags r a e plan (subst (λ (x : Result TallyProblem RolloutFault). IsTallyOutcome x a (Err e)) plan.1 told)

-- a rule that was planned by a factor, where none is given
rule_told : TalliesAskAsBooks → (recorded : Recorded) → IsOfInputs recorded → (m : ℕ) (flags : Definitions) (r : List ℕ) (rule : Entries) (c : DualPrices) (e : VerifyFault)
    → IsPlanOn m flags r recorded (emit rule c) → IsStepTold (Ok flags) None r recorded (emit rule c) (Err e) → is_want e ≡ true
rule_told asks (in_book book) of m flags r rule c e plan told = valid_rule m flags r book plan.0 rule c (Err e) plan.1 plan.2 told
rule_told asks (in_tally t) of m flags r rule c e plan told =
    tally_valid asks t of m flags r (emit rule c) e plan (subst (λ (x : Result TallyProblem RolloutFault). IsTallyOutcome x (emit rule c) (Err e)) (rule_again asks t of.0 of.1 m flags r rule c plan) told)

module _ (asks : TalliesAskAsBooks) (recorded : Recorded) (of : IsOfInputs recorded) where
  -- on the flags that a step stands on
  step_valid : (f : Option ℕ) (s : Standing) (r : List ℕ) (a : Answer) (e : VerifyFault) → IsStep s (unwrap_or f 1) r recorded a → IsStepTold s f r recorded a (Err e) → is_want e ≡ true
  step_valid f s r a e step told = flags_valid asks recorded of f step.flags r a e step.plan (subst (λ (x : Standing). IsStepTold x f r recorded a (Err e)) step.stands told)

  rule_step : (m : ℕ) (s : Standing) (r : List ℕ) (rule : Entries) (c : DualPrices) (e : VerifyFault) → IsStep s m r recorded (emit rule c) → IsStepTold s None r recorded (emit rule c) (Err e) → is_want e ≡ true
  rule_step m s r rule c e step told = rule_told asks recorded of m step.flags r rule c e step.plan (subst (λ (x : Standing). IsStepTold x None r recorded (emit rule c) (Err e)) step.stands told)

  wrong_valid : (f : Option ℕ) (s : Standing) (rs : List (List ℕ)) (answers : List Answer) (n : ℕ) (e : VerifyFault) → ArePlans s (unwrap_or f 1) rs recorded answers → IsWrongAfter s f rs recorded answers n e → is_want e ≡ true
  wrong_valid f s [] answers n e plans wrong = absurd wrong
  wrong_valid f s (r ∷ rs) [] n e plans wrong = absurd wrong
  wrong_valid f s (r ∷ rs) (a ∷ answers) zero e plans wrong = step_valid f s r a e plans.0 wrong
  wrong_valid f s (r ∷ rs) (a ∷ answers) (suc n) e plans wrong = wrong_valid (Some 1) (left_by s r a) (still a rs) answers n e plans.1 wrong.1

  -- none is lacking, and there is none too many
  all_there : (m : ℕ) (f : Option ℕ) (s : Standing) (rs : List (List ℕ)) (answers : List Answer) → ArePlans s m rs recorded answers → AreMiscounted s f rs recorded answers → ⊥
  all_there m f s [] [] plans miscounted = miscounted
  all_there m f s [] (a ∷ answers) plans miscounted = plans
  all_there m f s (r ∷ rs) [] plans miscounted = plans
  all_there m f s (r ∷ rs) (a ∷ answers) plans miscounted = all_there 1 (Some 1) (left_by s r a) (still a rs) answers plans.1 miscounted.1

  want_or : (e : VerifyFault) (b : Bool) → is_want e ≡ b → (is_want e ≡ false → is_want e ≡ true) → is_want e ≡ true
  want_or e true is other = is
  want_or e false is other = other is

  pub ramp_valid : (f : Option ℕ) (s : Standing) (rs : List (List ℕ)) (answers : List Answer) (told : Result (Unit {0}) RampFault) → ArePlans s (unwrap_or f 1) rs recorded answers → IsTold s f rs recorded answers told → IsValid told
  ramp_valid f s rs answers (Ok u) plans told = tt
  ramp_valid f s rs answers (Err Lines) plans told = all_there (unwrap_or f 1) f s rs answers plans told
  ramp_valid f s rs answers (Err (Step n e)) plans told = want_or e (is_want e) refl (λ other. let wrong = told other in wrong_valid f s rs answers wrong.0 e plans wrong.2)

  -- ---- the first answer is a rule, whose total tells the factor

  wrong_rule : (m : ℕ) (s : Standing) (rs : List (List ℕ)) (rule : Entries) (c : DualPrices) (answers : List Answer) (n : ℕ) (e : VerifyFault) → ArePlans s m rs recorded (emit rule c ∷ answers) → IsWrongAfter s None rs recorded (emit rule c ∷ answers) n e → is_want e ≡ true
  wrong_rule m s [] rule c answers n e plans wrong = absurd wrong
  wrong_rule m s (r ∷ rs) rule c answers zero e plans wrong =
      rule_step m s r rule c e plans.0 wrong
  wrong_rule m s (r ∷ rs) rule c answers (suc n) e plans wrong = wrong_valid (Some 1) (left_by s r (emit rule c)) rs answers n e plans.1 wrong.1

  pub rule_valid : (m : ℕ) (s : Standing) (rs : List (List ℕ)) (rule : Entries) (c : DualPrices) (answers : List Answer) (told : Result (Unit {0}) RampFault) → ArePlans s m rs recorded (emit rule c ∷ answers) → IsTold s None rs recorded (emit rule c ∷ answers) told
      → IsValid told
  rule_valid m s rs rule c answers (Ok u) plans told = tt
  rule_valid m s rs rule c answers (Err Lines) plans told = all_there m None s rs (emit rule c ∷ answers) plans told
  rule_valid m s rs rule c answers (Err (Step n e)) plans told = want_or e (is_want e) refl (λ other. let wrong = told other in wrong_rule m s rs rule c answers wrong.0 e plans wrong.2)
