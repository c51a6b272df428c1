-- An evaluation under a budget that stops early: what of a run is seen by one who pays for each entry as it comes. It serves
-- the evaluator's own contracts alone: that of `eval` is about `evaluation_of`.
use Rattle.std.specs.Prelude.{ℕ, ◌-◌, List, ◌++◌, nat_lt, if◌then◌else◌, Result, Ok, Err}
use Rattle.flag_text.specs.Outcome.{GivesUnless}
use Rattle.logic_values.specs.declared.fault.EvalFault.{EvalFault}
use Rattle.logic_values.specs.declared.fault.EvalFault.TheVariants.{WantOfMemory, TooLong}
use Rattle.logic_eval.specs.Run.{Reach, Run, units_of, reached_of}

-- the units that are left, and the sites reached so far
abbrev pub Progress : Type 0
Progress = ℕ × List Reach

abbrev pub with_progress : {A : Type 0} → ℕ → List Reach → Result A EvalFault → Result (A × Progress) EvalFault
with_progress left reached (Ok v) = Ok (v, (left, reached))
with_progress left reached (Err f) = Err f

-- what a run gives, and the progress after it: too long where it costs more than is left
unfoldable pub paid : {A : Type 0} → Progress → Run A → Result (A × Progress) EvalFault
paid p r = if nat_lt p.0 (units_of r.trace) then Err TooLong else with_progress (p.0 - units_of r.trace) (p.1 ++ reached_of r.trace) r.ending

-- the next step, with the progress after the first
abbrev pub if_paid : {A B : Type 0} → Result (A × Progress) EvalFault → (A → Progress → Result (B × Progress) EvalFault) → Result (B × Progress) EvalFault
if_paid (Ok x) f = f x.0 x.1
if_paid (Err e) f = Err e

-- What was given, as `seen` sees it, and the progress after it are what the run gives after the progress before it, unless
-- memory ran out.
abbrev pub Follows : {X A : Type 0} → (X → A) → Progress → Progress → Result X EvalFault → Run A → Type 0
Follows seen old new given run = GivesUnless WantOfMemory (λ x. (seen x, new)) given (paid old run)
