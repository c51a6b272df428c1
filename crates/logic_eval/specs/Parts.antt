-- What a part of an expression gives by itself, and which sites are known where it is evaluated.
use Rattle.std.specs.Prelude.{Bool, List, Result}
use Rattle.flag_text.specs.Shape.{Shape}
use Rattle.logic_ast.specs.Expression.{Expression}
use Rattle.logic_ast.specs.Sites.{Site}
use Rattle.logic_eval.specs.Evaluated.{tested_meaning}
use Rattle.logic_eval.specs.Literal.{AreSummed}
use Rattle.logic_eval.specs.Run.{Reach, result_of}
use Rattle.logic_eval.specs.Scope.{Situation, default_input, root_scope}
use Rattle.logic_eval.specs.Views.{situation}
use Rattle.logic_eval.specs.declared.inspection.Inspection.{Inspection}
use Rattle.logic_values.specs.declared.fault.EvalFault.{EvalFault}

-- what an expression gives at the root scope, where it is compared or tested, or where it is not
unfoldable pub given_by : Bool → Expression → Situation → Result (Shape × List Reach) EvalFault
given_by tested e s = result_of (tested_meaning tested (default_input s) e (root_scope s))

-- the context, the flag's key and the moment that parts are evaluated in
abbrev pub inspected : Inspection → Situation
inspected i = situation i.context.now

-- the cumulative weights of these sites are known
abbrev pub AreInspected : Inspection → List Site → Type 0
AreInspected i sites = AreSummed i.subject sites
