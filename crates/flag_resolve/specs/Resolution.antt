-- What a flag resolves to: the first case that applies, from 1 to 10 (OpenFeature: flag evaluation, reasons and error codes; flagd).
use Rattle.std.specs.Prelude.{ℕ, List, [], codes, true, false, is_none, if◌then◌else◌, Option, Some, None, option_map, option_and_then, Result, Ok, Err}
use Rattle.std.specs.Map.{lookup}
use Rattle.std.specs.Str.{bytes_eq}
use Rattle.flag_text.specs.Readers.{as_object}
use Rattle.flag_text.specs.Shape.{Shape, null, boolean, text}
use Rattle.flag_defs.specs.Definition.{Definition}
use Rattle.flag_defs.specs.Document.{Definitions}
use Rattle.flag_defs.specs.Flag.{is_broken, is_enabled, default_variant_of, variant_of, targeting_in}
use Rattle.logic_ast.specs.Expression.{Expression}
use Rattle.logic_eval.specs.Evaluation.{evaluation_of}
use Rattle.logic_eval.specs.Run.{Reach}
use Rattle.logic_eval.specs.Scope.{Situation}
use Rattle.logic_values.specs.declared.fault.EvalFault.{EvalFault}
use Rattle.flag_defs.specs.Kind.{is_of_kind}
use Rattle.flag_resolve.specs.Resolved.{Resolved}
use Rattle.flag_resolve.specs.declared.code.Code.{Code}
use Rattle.flag_resolve.specs.declared.code.Code.TheVariants.{ProviderNotReady, InvalidContext, FlagNotFound, ParseError, General, TypeMismatch}
use Rattle.flag_defs.specs.declared.kind.Kind.{Kind}
use Rattle.flag_resolve.specs.declared.reason.Reason.{Reason}
use Rattle.flag_resolve.specs.declared.reason.Reason.TheVariants.{Error, Disabled, Static, Default, TargetingMatch}

-- what the caller asks for: a kind of value, and a default for where the flag gives none
pub record Asked : Type 0 where
  pub want : Kind
  pub default : Shape

-- ---- answers

-- the caller's default
abbrev pub defaulted : Asked → Reason → List Reach → Resolved
defaulted a reason reached = record { value = a.default; variant = None; reason = reason; code = None; reached = reached }

-- the caller's default and an error code
abbrev pub failed : Asked → Code → List Reach → Resolved
failed a code reached = record { value = a.default; variant = None; reason = Error; code = Some code; reached = reached }

-- the value of a variant, which is to be of the wanted kind
abbrev pub given : Asked → List ℕ × Shape → Reason → List Reach → Resolved
given a variant reason reached =
    if is_of_kind a.want variant.1
    then record { value = variant.1; variant = Some variant.0; reason = reason; code = None; reached = reached }
    else failed a TypeMismatch reached

-- ---- variants

-- the name and the value of a variant
abbrev pub variant_named : Definition → List ℕ → Option (List ℕ × Shape)
variant_named d name = option_map (λ value. (name, value)) (variant_of name d)

-- those of the default variant, where the flag has one
abbrev pub default_of : Definition → Option (List ℕ × Shape)
default_of d = option_and_then (variant_named d) (default_variant_of d)

-- the name that a targeting's result is: a text, `true` or `false`
abbrev pub name_in : Shape → Option (List ℕ)
name_in (text s) = Some s
name_in (boolean true) = Some (codes "true")
name_in (boolean false) = Some (codes "false")
name_in t = None

-- the default variant, or else the caller's default
abbrev pub given_default : Asked → Option (List ℕ × Shape) → Reason → List Reach → Resolved
given_default a (Some variant) reason reached = given a variant reason reached
given_default a None reason reached = defaulted a Default reached

-- ---- cases

-- 9. the result names no variant: GENERAL. 10. It names one: TARGETING_MATCH.
abbrev pub chosen : Asked → Option (List ℕ × Shape) → List Reach → Resolved
chosen a None reached = failed a General reached
chosen a (Some variant) reached = given a variant TargetingMatch reached

-- 8. the result is null: the default variant, DEFAULT
abbrev pub targeted : Asked → Definition → Shape → List Reach → Resolved
targeted a d null reached = given_default a (default_of d) Default reached
targeted a d t reached = chosen a (option_and_then (variant_named d) (name_in t)) reached

-- 7. the evaluation faults: PARSE_ERROR
abbrev pub evaluated : Asked → Definition → Result (Shape × List Reach) EvalFault → Resolved
evaluated a d (Err fault) = failed a ParseError []
evaluated a d (Ok outcome) = targeted a d outcome.0 outcome.1

-- 6. no targeting: the default variant, STATIC
abbrev pub enabled : Asked → Definition → Option Expression → Situation → Resolved
enabled a d None s = given_default a (default_of d) Static []
enabled a d (Some targeting) s = evaluated a d (evaluation_of targeting s)

-- 4. a broken flag: PARSE_ERROR. 5. A disabled one: DISABLED.
abbrev pub defined : Asked → Definition → Situation → Resolved
defined a d s =
    if is_broken d then failed a ParseError [] else
    (if is_enabled d then enabled a d (targeting_in d) s else defaulted a Disabled [])

-- 3. unknown key: FLAG_NOT_FOUND
abbrev pub found : Asked → Option Definition → Situation → Resolved
found a None s = failed a FlagNotFound []
found a (Some d) s = defined a d s

-- 1. no flags yet: PROVIDER_NOT_READY. 2. The context is not an object: INVALID_CONTEXT.
unfoldable pub resolution_of : Option Definitions → Asked → Situation → Resolved
resolution_of None a s = failed a ProviderNotReady []
resolution_of (Some flags) a s = if is_none (as_object s.context) then failed a InvalidContext [] else found a (lookup (bytes_eq s.flag) flags) s

-- the same of what a caller gives: the flags, the kind and the default, the context with the flag's key and the moment
abbrev pub resolved_by : Option Definitions → Kind → Shape → Shape → List ℕ → ℕ → Resolved
resolved_by flags want default context key moment =
    resolution_of flags (record { want = want; default = default }) (record { context = context; flag = key; moment = moment })
