-- The exit of a `?`, where a fault is passed on.
use Rattle.std.proofs.Common.{◌≡◌, ◌≢◌, Result, Ok, Err, sym, ap, ◌∙◌}
use Rattle.std.specs.Result.{IsErrAnd}
use Rattle.flag_text.specs.Outcome.{GivesUnless}
use Rattle.logic_values.specs.declared.fault.EvalFault.{EvalFault}
use Rattle.logic_values.specs.declared.fault.EvalFault.TheVariants.{WantOfMemory}
use Rattle.logic_eval.specs.Budget.{Progress, paid}
use Rattle.logic_eval.specs.Run.{ends}
use Rattle.logic_eval.proofs.Budgets.{ends_ok, ends_err}

pub exits : {X Y : Type 0} (seen : X → Y) (r : Result X EvalFault) (e : EvalFault) (wanted : Result Y EvalFault)
    → IsErrAnd r (λ y. y ≡ e) → (e ≢ WantOfMemory → wanted ≡ Err e) → GivesUnless WantOfMemory seen r wanted
exits seen (Ok x) e wanted is h = absurd is
exits seen (Err d) e wanted is h = λ n. h (λ w. n (is ∙ w)) ∙ ap Err (sym is)

-- the same where memory ran out
pub exits_without_memory : {X Y : Type 0} (seen : X → Y) (r : Result X EvalFault) (wanted : Result Y EvalFault)
    → IsErrAnd r (λ y. y ≡ WantOfMemory) → GivesUnless WantOfMemory seen r wanted
exits_without_memory seen (Ok x) wanted is = absurd is
exits_without_memory seen (Err d) wanted is = λ n. absurd (n is)

-- what is given stays given where what is wanted is the same
pub gives_same : {X Y : Type 0} (seen : X → Y) (r : Result X EvalFault) (v w : Result Y EvalFault)
    → w ≡ v → GivesUnless WantOfMemory seen r v → GivesUnless WantOfMemory seen r w
gives_same seen (Ok x) v w e h = e ∙ h
gives_same seen (Err d) v w e h = λ n. e ∙ h n

-- what ends a run is what is given
pub ended : {X A : Type 0} (p : Progress) (seen : X → A) (r : Result X EvalFault) (w : Result A EvalFault)
    → GivesUnless WantOfMemory seen r w → GivesUnless WantOfMemory (λ x. (seen x, p)) r (paid p (ends w))
ended p seen (Ok x) w h = ends_ok p w (seen x) h
ended p seen (Err d) w h = λ n. ends_err p w d (h n)
