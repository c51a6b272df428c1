-- Each case of a resolution is lawful.
use Rattle.std.proofs.Common.{◌≡◌, ℕ, List, Bool, true, false, if◌then◌else◌, is_none, Option, Some, None, option_and_then, Result, Ok, Err, refl, sym}
use Rattle.std.specs.Map.{lookup}
use Rattle.std.specs.Str.{bytes_eq}
use Rattle.flag_text.specs.Readers.{as_object}
use Rattle.flag_text.specs.Shape.{Shape, null, boolean, whole, other, text, list, object}
use Rattle.flag_defs.specs.Definition.{Definition}
use Rattle.flag_defs.specs.Document.{Definitions}
use Rattle.flag_defs.specs.Flag.{is_broken, is_enabled, targeting_in}
use Rattle.logic_ast.specs.Expression.{Expression}
use Rattle.logic_eval.specs.Evaluation.{evaluation_of}
use Rattle.logic_eval.specs.Run.{Reach}
use Rattle.logic_eval.specs.Scope.{Situation}
use Rattle.logic_values.specs.declared.fault.EvalFault.{EvalFault}
use Rattle.flag_defs.specs.Kind.{is_of_kind}
use Rattle.flag_resolve.specs.Lawful.{IsLawful, is_error}
use Rattle.flag_resolve.specs.Resolution.{Asked, defaulted, failed, given, variant_named, default_of, name_in, given_default, chosen, targeted, evaluated, enabled, defined, found, resolution_of}
use Rattle.flag_resolve.specs.Resolved.{Resolved}
use Rattle.flag_resolve.specs.declared.code.Code.{Code}
use Rattle.flag_resolve.specs.declared.reason.Reason.{Reason}
use Rattle.flag_resolve.specs.declared.reason.Reason.TheVariants.{Default}

failed-lawful : (a : Asked) (code : Code) (reached : List Reach) → IsLawful a (failed a code reached)
failed-lawful a code reached = record { coded = refl; typed = tt; defaulted = refl }

defaulted-lawful : (a : Asked) (reason : Reason) (reached : List Reach) → is_error reason ≡ false → IsLawful a (defaulted a reason reached)
defaulted-lawful a reason reached calm = record { coded = sym calm; typed = tt; defaulted = refl }

either-lawful : (a : Asked) (b : Bool) (r s : Resolved) → (b ≡ true → IsLawful a r) → (b ≡ false → IsLawful a s) → IsLawful a (if b then r else s)
either-lawful a true r s holds fails = holds refl
either-lawful a false r s holds fails = fails refl

given-lawful : (a : Asked) (v : List ℕ × Shape) (reason : Reason) (reached : List Reach) → is_error reason ≡ false → IsLawful a (given a v reason reached)
given-lawful a v reason reached calm =
    either-lawful a (is_of_kind a.want v.1) _ _ (λ fits. record { coded = sym calm; typed = fits; defaulted = tt }) (λ _. failed-lawful a _ reached)

given_default-lawful : (a : Asked) (v : Option (List ℕ × Shape)) (reason : Reason) (reached : List Reach) → is_error reason ≡ false → IsLawful a (given_default a v reason reached)
given_default-lawful a (Some v) reason reached calm = given-lawful a v reason reached calm
given_default-lawful a None reason reached calm = defaulted-lawful a Default reached refl

chosen-lawful : (a : Asked) (v : Option (List ℕ × Shape)) (reached : List Reach) → IsLawful a (chosen a v reached)
chosen-lawful a None reached = failed-lawful a _ reached
chosen-lawful a (Some v) reached = given-lawful a v _ reached refl

targeted-lawful : (a : Asked) (d : Definition) (t : Shape) (reached : List Reach) → IsLawful a (targeted a d t reached)
targeted-lawful a d null reached = given_default-lawful a (default_of d) _ reached refl
targeted-lawful a d (boolean b) reached = chosen-lawful a (option_and_then (variant_named d) (name_in (boolean b))) reached
targeted-lawful a d (whole n) reached = chosen-lawful a None reached
targeted-lawful a d other reached = chosen-lawful a None reached
targeted-lawful a d (text s) reached = chosen-lawful a (variant_named d s) reached
targeted-lawful a d (list ts) reached = chosen-lawful a None reached
targeted-lawful a d (object ms) reached = chosen-lawful a None reached

evaluated-lawful : (a : Asked) (d : Definition) (r : Result (Shape × List Reach) EvalFault) → IsLawful a (evaluated a d r)
evaluated-lawful a d (Err fault) = failed-lawful a _ _
evaluated-lawful a d (Ok outcome) = targeted-lawful a d outcome.0 outcome.1

enabled-lawful : (a : Asked) (d : Definition) (e : Option Expression) (s : Situation) → IsLawful a (enabled a d e s)
enabled-lawful a d None s = given_default-lawful a (default_of d) _ _ refl
enabled-lawful a d (Some e) s = evaluated-lawful a d (evaluation_of e s)

defined-lawful : (a : Asked) (d : Definition) (s : Situation) → IsLawful a (defined a d s)
defined-lawful a d s =
    either-lawful a (is_broken d) _ _ (λ _. failed-lawful a _ _)
    (λ _. either-lawful a (is_enabled d) _ _ (λ _. enabled-lawful a d (targeting_in d) s) (λ _. defaulted-lawful a _ _ refl))

found-lawful : (a : Asked) (d : Option Definition) (s : Situation) → IsLawful a (found a d s)
found-lawful a None s = failed-lawful a _ _
found-lawful a (Some d) s = defined-lawful a d s

pub resolution_of-lawful : (flags : Option Definitions) (a : Asked) (s : Situation) → IsLawful a (resolution_of flags a s)
unfolding resolution_of
resolution_of-lawful None a s = failed-lawful a _ _
resolution_of-lawful (Some flags) a s =
    either-lawful a (is_none (as_object s.context)) _ _ (λ _. failed-lawful a _ _) (λ _. found-lawful a (lookup (bytes_eq s.flag) flags) s)
