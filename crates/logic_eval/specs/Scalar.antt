-- What an expression evaluates to, for one who asks for no number, list or object.
use Rattle.std.specs.Prelude.{Result, Ok, Err}
use Rattle.flag_text.specs.Outcome.{GivesUnless}
use Rattle.flag_text.specs.Shape.{Shape, null, boolean, text, list, no_items}
use Rattle.flag_text.specs.View.{view}
use Rattle.flag_text.specs.declared.tree.Tree.{Tree}
use Rattle.logic_eval.specs.Budget.{Progress, paid}
use Rattle.logic_eval.specs.Run.{Run}
use Rattle.logic_values.specs.declared.fault.EvalFault.{EvalFault}
use Rattle.logic_values.specs.declared.fault.EvalFault.TheVariants.{WantOfMemory}

-- null, a boolean or a text; an empty list stands for any other value
abbrev pub scalar_in : Shape → Shape
scalar_in null = null
scalar_in (boolean b) = boolean b
scalar_in (text s) = text s
scalar_in t = list no_items

-- the same of what was given, beside what else was given
abbrev pub scalar_of : {A : Type 0} → Result (Shape × A) EvalFault → Result (Shape × A) EvalFault
scalar_of (Ok r) = Ok (scalar_in r.0, r.1)
scalar_of (Err e) = Err e

-- a tree follows a run as far as its value is a scalar
abbrev pub FollowsScalar : Progress → Progress → Result Tree EvalFault → Run Shape → Type 0
FollowsScalar old new given run = GivesUnless WantOfMemory (λ t. (view t, new)) given (scalar_of (paid old run))
