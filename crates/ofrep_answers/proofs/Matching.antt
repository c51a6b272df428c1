-- A flag is evaluated for the kind of its variants.
use Rattle.std.proofs.Common.{◌≡◌, ℕ, List, [], Bool, true, false, if◌then◌else◌, is_none, Option, Some, None, option_map, option_and_then, Result, Ok, Err, refl}
use Rattle.std.proofs.lemmas.Map.Entries.{All-lookup}
use Rattle.std.proofs.lemmas.Bool.{false≢true}
use Rattle.std.specs.Map.{lookup}
use Rattle.std.specs.Prelude.{IfSome}
use Rattle.std.specs.Str.{bytes_eq}
use Rattle.flag_text.specs.Readers.{as_object}
use Rattle.flag_text.specs.Shape.{Shape, null, boolean, whole, other, text, list, object}
use Rattle.flag_defs.specs.Definition.{Definition}
use Rattle.flag_defs.specs.Document.{Definitions}
use Rattle.flag_defs.specs.Flag.{default_variant_of, is_broken, is_definition, is_enabled, targeting_in, variant_of, variants_in}
use Rattle.logic_ast.specs.Expression.{Expression}
use Rattle.logic_eval.specs.Evaluation.{evaluation_of}
use Rattle.logic_eval.specs.Run.{Reach}
use Rattle.logic_eval.specs.Scope.{Situation}
use Rattle.logic_values.specs.declared.fault.EvalFault.{EvalFault}
use Rattle.flag_defs.specs.Kind.{is_of_kind}
use Rattle.flag_resolve.specs.Resolution.{Asked, failed, defaulted, variant_named, default_of, name_in, given, given_default, chosen, targeted, evaluated, enabled, defined, found, resolution_of}
use Rattle.flag_resolve.specs.Resolved.{Resolved}
use Rattle.flag_resolve.specs.declared.code.Code.{Code}
use Rattle.flag_resolve.specs.declared.code.Code.TheVariants.{InvalidContext, FlagNotFound, ParseError, General, TypeMismatch}
use Rattle.flag_resolve.specs.declared.reason.Reason.{Reason}
use Rattle.flag_resolve.specs.declared.reason.Reason.TheVariants.{Disabled, Default}
use Rattle.ofrep_answers.proofs.Variants.{found_kind}
use Rattle.ofrep_answers.specs.Evaluation.{evaluation}
use Rattle.ofrep_answers.specs.Kind.{flag_kind, variants_kind}
use Rattle.ofrep_answers.specs.Law.{NeverMismatches}

record Matches (r : Resolved) : Type 0 where
  never : r.code ≡ Some TypeMismatch → ⊥

failed-matches : (a : Asked) (code : Code) (reached : List Reach) → (code ≡ TypeMismatch → ⊥) → Matches (failed a code reached)
failed-matches a code reached differs = record { never = λ e. differs cc }

defaulted-matches : (a : Asked) (reason : Reason) (reached : List Reach) → Matches (defaulted a reason reached)
defaulted-matches a reason reached = record { never = λ e. cc }

variant-matches : (a : Asked) (v : List ℕ × Shape) (reason : Reason) (reached : List Reach)
    → Matches (record { value = v.1; variant = Some v.0; reason = reason; code = None; reached = reached })
variant-matches a v reason reached = record { never = λ e. cc }

not_general : General ≡ TypeMismatch → ⊥
not_general e = cc

not_parse : ParseError ≡ TypeMismatch → ⊥
not_parse e = cc

not_context : InvalidContext ≡ TypeMismatch → ⊥
not_context e = cc

not_found : FlagNotFound ≡ TypeMismatch → ⊥
not_found e = cc

-- a variant of the wanted kind
abbrev Fits : Asked → Option (List ℕ × Shape) → Type 0
Fits a o = IfSome o (λ v. is_of_kind a.want v.1 ≡ true)

either : (b : Bool) (r s : Resolved) → Matches r → Matches s → Matches (if b then r else s)
either true r s m n = m
either false r s m n = n

fitting : (b : Bool) (r s : Resolved) → b ≡ true → Matches r → Matches (if b then r else s)
fitting true r s h m = m
fitting false r s h m = absurd (false≢true h)

given-matches : (a : Asked) (v : List ℕ × Shape) (reason : Reason) (reached : List Reach) → is_of_kind a.want v.1 ≡ true → Matches (given a v reason reached)
given-matches a v reason reached h = fitting (is_of_kind a.want v.1) _ (failed a TypeMismatch reached) h (variant-matches a v reason reached)

given_default-matches : (a : Asked) (v : Option (List ℕ × Shape)) (reason : Reason) (reached : List Reach) → Fits a v → Matches (given_default a v reason reached)
given_default-matches a None reason reached h = defaulted-matches a Default reached
given_default-matches a (Some v) reason reached h = given-matches a v reason reached h

chosen-matches : (a : Asked) (v : Option (List ℕ × Shape)) (reached : List Reach) → Fits a v → Matches (chosen a v reached)
chosen-matches a None reached h = failed-matches a General reached not_general
chosen-matches a (Some v) reached h = given-matches a v _ reached h

named : (a : Asked) (name : List ℕ) (o : Option Shape) → IfSome o (λ v. is_of_kind a.want v ≡ true) → Fits a (option_map (λ value. (name, value)) o)
named a name None h = tt
named a name (Some v) h = h

abbrev AllFit : Asked → Definition → Type 0
AllFit a d = (name : List ℕ) → IfSome (variant_of name d) (λ v. is_of_kind a.want v ≡ true)

of_name : (a : Asked) (d : Definition) (o : Option (List ℕ)) → AllFit a d → Fits a (option_and_then (variant_named d) o)
of_name a d None fit = tt
of_name a d (Some name) fit = named a name (variant_of name d) (fit name)

targeted-matches : (a : Asked) (d : Definition) (t : Shape) (reached : List Reach) → AllFit a d → Matches (targeted a d t reached)
targeted-matches a d null reached fit = given_default-matches a (default_of d) _ reached (of_name a d (default_variant_of d) fit)
targeted-matches a d (boolean b) reached fit = chosen-matches a _ reached (of_name a d (name_in (boolean b)) fit)
targeted-matches a d (whole n) reached fit = chosen-matches a None reached tt
targeted-matches a d other reached fit = chosen-matches a None reached tt
targeted-matches a d (text s) reached fit = chosen-matches a _ reached (of_name a d (Some s) fit)
targeted-matches a d (list ts) reached fit = chosen-matches a None reached tt
targeted-matches a d (object ms) reached fit = chosen-matches a None reached tt

evaluated-matches : (a : Asked) (d : Definition) (r : Result (Shape × List Reach) EvalFault) → AllFit a d → Matches (evaluated a d r)
evaluated-matches a d (Err fault) fit = failed-matches a ParseError [] not_parse
evaluated-matches a d (Ok outcome) fit = targeted-matches a d outcome.0 outcome.1 fit

enabled-matches : (a : Asked) (d : Definition) (e : Option Expression) (s : Situation) → AllFit a d → Matches (enabled a d e s)
enabled-matches a d None s fit = given_default-matches a (default_of d) _ [] (of_name a d (default_variant_of d) fit)
enabled-matches a d (Some e) s fit = evaluated-matches a d (evaluation_of e s) fit

defined-matches : (a : Asked) (d : Definition) (s : Situation) → AllFit a d → Matches (defined a d s)
defined-matches a d s fit =
    either (is_broken d) _ _ (failed-matches a ParseError [] not_parse)
    (either (is_enabled d) _ _ (enabled-matches a d (targeting_in d) s fit) (defaulted-matches a Disabled []))

found-matches : (a : Asked) (d : Option Definition) (s : Situation) → IfSome d (AllFit a) → Matches (found a d s)
found-matches a None s fit = failed-matches a FlagNotFound [] not_found
found-matches a (Some d) s fit = defined-matches a d s fit

fits_at : (ms : Definition) (name : List ℕ) (o : Option Shape) → is_definition ms ≡ true → variant_of name ms ≡ o → IfSome o (λ v. is_of_kind (variants_kind (variants_in ms)) v ≡ true)
fits_at d name None h e = tt
fits_at d name (Some v) h e = (found_kind d name v h e).1

wanted_fits : (default : Shape) (d : Option Definition) → IfSome d (λ e. is_definition e ≡ true) → IfSome d (AllFit (record { want = flag_kind d; default = default }))
wanted_fits default None h = tt
wanted_fits default (Some d) h = λ name. fits_at d name (variant_of name d) h refl

matching : (flags : Definitions) (a : Asked) (s : Situation) → IfSome (lookup (bytes_eq s.flag) flags) (AllFit a) → Matches (resolution_of (Some flags) a s)
unfolding resolution_of
matching flags a s fit =
    either (is_none (as_object s.context)) _ _ (failed-matches a InvalidContext [] not_context) (found-matches a (lookup (bytes_eq s.flag) flags) s fit)

pub never_mismatches : NeverMismatches
unfolding evaluation
never_mismatches flags key context moment all =
    let d = lookup (bytes_eq key) flags in
    let a : Asked = record { want = flag_kind d; default = null } in
    let s : Situation = record { context = context; flag = key; moment = moment } in
    (matching flags a s (wanted_fits null d (All-lookup (λ e. is_definition e ≡ true) (bytes_eq key) flags all))).never
