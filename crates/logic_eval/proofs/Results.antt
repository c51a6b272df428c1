-- The result of a run is what one who pays for it sees.
use Rattle.std.proofs.Common.{◌≡◌, ℕ, Bool, List, [], ◌++◌, ◌-◌, Option, Result, Ok, Err, refl, inl, inr}
use Rattle.std.specs.Prelude.{nat_lt}
use Rattle.std.proofs.lemmas.Bool.{cases_Bool}
use Rattle.flag_text.specs.Shape.{Shape}
use Rattle.logic_ast.specs.Expression.{Expression}
use Rattle.logic_values.specs.declared.fault.EvalFault.{EvalFault}
use Rattle.logic_eval.specs.Budget.{Progress, paid, with_progress}
use Rattle.logic_eval.specs.Evaluated.{tested_meaning}
use Rattle.logic_eval.specs.Evaluation.{evaluation_of, meaning}
use Rattle.logic_eval.specs.Parts.{given_by}
use Rattle.logic_eval.specs.Run.{Reach, Run, result_of, units_of, reached_of, with_reached, most_units}
use Rattle.logic_eval.specs.Scope.{Situation, default_input, root_scope}

-- without what is left of the budget
abbrev pub outcome : {A : Type 0} → Result (A × Progress) EvalFault → Result (A × List Reach) EvalFault
outcome (Ok x) = Ok (x.0, x.1.1)
outcome (Err e) = Err e

pub result_of-paid : {A : Type 0} (r : Run A) → result_of r ≡ outcome (paid (most_units, []) r)
unfolding paid
result_of-paid {A} r = elim (cases_Bool (nat_lt most_units (units_of r.trace))) [
  | inl e ↦ rw e refl
  | inr e ↦ rw e (go r.ending)
]
  where
    go : (o : Result A EvalFault) → with_reached (reached_of r.trace) o ≡ outcome (with_progress (100000 - units_of r.trace) ([] ++ reached_of r.trace) o)
    go (Ok v) = refl
    go (Err f) = refl

-- the evaluation of an expression, as it is paid for
pub evaluation_of-paid : (e : Expression) (s : Situation) (d : Option (List ℕ)) (scope : Shape) (p : Progress) (x : Expression) → d ≡ default_input s → scope ≡ root_scope s → p ≡ (most_units, []) → x ≡ e
    → evaluation_of e s ≡ outcome (paid p (meaning d x scope))
unfolding evaluation_of
evaluation_of-paid e s d scope p x f g h i = rw (f, g, h, i) (result_of-paid (meaning (default_input s) e (root_scope s)))

-- that of a part of one
pub given_by-paid : (tested : Bool) (e : Expression) (s : Situation) (p : Progress) → p ≡ (most_units, [])
    → given_by tested e s ≡ outcome (paid p (tested_meaning tested (default_input s) e (root_scope s)))
unfolding given_by
given_by-paid tested e s p is = rw is (result_of-paid (tested_meaning tested (default_input s) e (root_scope s)))
