-- A resolution looks at a scalar alone: of any other value it knows that it names no variant.
use Rattle.std.proofs.Common.{◌≡◌, List, true, false, Result, Ok, Err, refl}
use Rattle.flag_text.specs.Shape.{Shape, null, boolean, whole, other, text, list, object}
use Rattle.flag_defs.specs.Definition.{Definition}
use Rattle.flag_resolve.specs.Resolution.{Asked, evaluated, targeted}
use Rattle.logic_eval.specs.Scalar.{scalar_in, scalar_of}
use Rattle.logic_eval.specs.Run.{Reach}
use Rattle.logic_values.specs.declared.fault.EvalFault.{EvalFault}

targeted-scalar : (a : Asked) (d : Definition) (t : Shape) (rs : List Reach) → targeted a d (scalar_in t) rs ≡ targeted a d t rs
targeted-scalar a d null rs = refl
targeted-scalar a d (boolean true) rs = refl
targeted-scalar a d (boolean false) rs = refl
targeted-scalar a d (whole n) rs = refl
targeted-scalar a d other rs = refl
targeted-scalar a d (text s) rs = refl
targeted-scalar a d (list ts) rs = refl
targeted-scalar a d (object ms) rs = refl

pub evaluated-scalar : (a : Asked) (d : Definition) (r : Result (Shape × List Reach) EvalFault) → evaluated a d (scalar_of r) ≡ evaluated a d r
evaluated-scalar a d (Ok x) = targeted-scalar a d x.0 x.1
evaluated-scalar a d (Err e) = refl
