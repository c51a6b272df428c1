-- What another targeting changes of a resolution, where it is evaluated to the same value.
use Rattle.std.specs.Prelude.{◌≡◌, map, Some}
use Rattle.std.specs.Map.{lookup}
use Rattle.std.specs.Str.{bytes_eq}
use Rattle.flag_defs.specs.Definition.{Rules, good}
use Rattle.flag_defs.specs.Document.{Definitions}
use Rattle.logic_ast.specs.Expression.{Expression}
use Rattle.logic_eval.specs.Evaluation.{evaluation_of}
use Rattle.logic_eval.specs.Laws.{each_reached}
use Rattle.logic_eval.specs.Run.{Reach}
use Rattle.logic_eval.specs.Scope.{Situation}
use Rattle.flag_resolve.specs.Resolution.{Asked, resolution_of}
use Rattle.flag_resolve.specs.Resolved.{Resolved}

-- the same, with each reached site changed
abbrev pub with_reached : (Reach → Reach) → Resolved → Resolved
with_reached f r = record r { reached = map f r.reached }

-- A flag with another targeting that is evaluated to the same value, or the same fault, resolves as before but for what was reached.
abbrev pub ResolvesAlike : Type 0
ResolvesAlike =
    (before after : Definitions) (r : Rules) (e g : Expression) (f : Reach → Reach) (a : Asked) (s : Situation)
    → lookup (bytes_eq s.flag) before ≡ Some (good (record r { targeting = Some e })) → lookup (bytes_eq s.flag) after ≡ Some (good (record r { targeting = Some g }))
    → evaluation_of g s ≡ each_reached f (evaluation_of e s)
    → resolution_of (Some after) a s ≡ with_reached f (resolution_of (Some before) a s)

-- Whether another flag is changed makes no difference.
abbrev pub OthersStay : Type 0
OthersStay =
    (before after : Definitions) (a : Asked) (s : Situation) → lookup (bytes_eq s.flag) after ≡ lookup (bytes_eq s.flag) before
    → resolution_of (Some after) a s ≡ resolution_of (Some before) a s
