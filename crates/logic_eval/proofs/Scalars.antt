-- The scalar of what a run gives is that of its outcome.
use Rattle.std.proofs.Common.{◌≡◌, Result, Ok, Err, refl}
use Rattle.flag_text.specs.Shape.{Shape}
use Rattle.logic_eval.specs.Scalar.{scalar_of}
use Rattle.logic_eval.specs.Budget.{Progress}
use Rattle.logic_values.specs.declared.fault.EvalFault.{EvalFault}
use Rattle.logic_eval.proofs.Results.{outcome}

pub scalar-outcome : (r : Result (Shape × Progress) EvalFault) → scalar_of (outcome r) ≡ outcome (scalar_of r)
scalar-outcome (Ok x) = refl
scalar-outcome (Err e) = refl
