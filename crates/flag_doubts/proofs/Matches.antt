-- A targeting that never gives a variant matches for nobody.
use Rattle.std.proofs.Common.{◌≡◌, ◌≢◌, inl, inr, ℕ, Bool, true, false, not, ◌||◌, cond, nat_lt, is_none, is_some, codes, List, [], ◌∷◌, Option, Some, None, option_map, option_and_then, Result, Ok, Err, IfOk, refl, sym, ap, ◌∙◌, subst}
use Rattle.std.specs.List.{list_any}
use Rattle.flag_defs.specs.Definition.{Definition, broken, good}
use Rattle.flag_defs.specs.Flag.{variant_of}
use Rattle.flag_defs.specs.Kind.{is_of_kind}
use Rattle.flag_resolve.specs.Resolution.{Asked, chosen, default_of, defined, enabled, evaluated, failed, found, given_default, name_in, resolution_of, targeted, variant_named}
use Rattle.flag_resolve.specs.Resolved.{Resolved}
use Rattle.flag_resolve.specs.declared.code.Code.TheVariants.{TypeMismatch}
use Rattle.flag_resolve.specs.declared.reason.Reason.TheVariants.{Default, TargetingMatch}
use Rattle.flag_text.specs.Readers.{as_object}
use Rattle.flag_text.specs.Shape as shape
use Rattle.flag_text.specs.Shape.{Shape, null, boolean, whole, text}
use Rattle.logic_ast.specs.Expression.{Expression}
use Rattle.logic_eval.specs.Evaluation.{evaluation_of, meaning}
use Rattle.logic_eval.specs.Run.{Reach, Run, most_units, reached_of, result_of, units_of, with_reached}
use Rattle.logic_eval.specs.Scope.{Situation, default_input, root_scope}
use Rattle.logic_values.specs.declared.fault.EvalFault.{EvalFault}
use Rattle.logic_values.specs.declared.fault.EvalFault.TheVariants.{TooLong}
use Rattle.flag_doubts.proofs.Giving.{Gives}
use Rattle.flag_doubts.proofs.Told.{told}
use Rattle.flag_doubts.specs.Doubts.{gives_none, has_truth, may_be_variant, never_gives, passes}
use Rattle.flag_doubts.specs.Laws.{EachValueIsAnOutcome, IsAmong, NeverMatches}
use Rattle.flag_doubts.specs.Outcomes.{Outcome, named, nameless, truth, computed, outcomes}

-- ---- from a run to its value

abbrev value_or : Shape → Result (Shape × List Reach) EvalFault → Shape
value_or v (Ok p) = p.0
value_or v (Err f) = v

ended : (P : Shape → Type 0) (rs ss : List Reach) (e : Result Shape EvalFault) (v : Shape) → IfOk e P → with_reached rs e ≡ Ok (v, ss) → P v
ended P rs ss (Ok w) v h is = subst P (ap (value_or w) is) h
ended P rs ss (Err f) v h is = absurd (cc is)

value_of : (P : Shape → Type 0) (r : Run Shape) → Gives P r → (v : Shape) (ss : List Reach) → result_of r ≡ Ok (v, ss) → P v
value_of P r h v ss is = go (nat_lt most_units (units_of r.trace)) is
  where
    go : (b : Bool) → cond b (Err TooLong) (with_reached (reached_of r.trace) r.ending) ≡ Ok (v, ss) → P v
    go true e = absurd (cc e)
    go false e = ended P (reached_of r.trace) ss r.ending v h.value e

pub each_value : EachValueIsAnOutcome
unfolding evaluation_of
each_value e s v rs is = value_of (IsAmong (outcomes e)) (meaning (default_input s) e (root_scope s)) (told (default_input s) e (root_scope s)) v rs is

-- ---- from a value to a resolution

neither : (a b : Bool) → (a || b) ≡ false → (a ≡ false) × (b ≡ false)
neither true b e = absurd (cc e)
neither false b e = (refl, e)

no_variant : (d : Definition) (s : List ℕ) → is_some (variant_of s d) ≡ false → variant_named d s ≡ None
no_variant d s h = go (variant_of s d) h
  where
    go : (o : Option Shape) → is_some o ≡ false → option_map {U = List ℕ × Shape} (λ value. (s, value)) o ≡ None
    go None e = refl
    go (Some t) e = absurd (cc e)

no_truth : (d : Definition) (b : Bool) → has_truth d ≡ false → option_and_then (variant_named d) (name_in (boolean b)) ≡ None
no_truth d true none = no_variant d (codes "true") (neither (is_some (variant_of (codes "true") d)) _ none).0
no_truth d false none = no_variant d (codes "false") (neither (is_some (variant_of (codes "true") d)) _ none).1

none_named : (d : Definition) (os : List Outcome) (v : Shape) → list_any (may_be_variant d) os ≡ false → IsAmong os v → option_and_then (variant_named d) (name_in v) ≡ None
none_named d [] v none e = ap (λ t. option_and_then (variant_named d) (name_in t)) e
none_named d (named s ∷ os) v none (inl e) = ap (option_and_then (variant_named d)) e ∙ no_variant d s (neither _ _ none).0
none_named d (nameless ∷ os) v none (inl e) = ap (option_and_then (variant_named d)) e
none_named d (truth ∷ os) v none (inl (b, e)) = ap (λ t. option_and_then (variant_named d) (name_in t)) e ∙ no_truth d b (neither (has_truth d) _ none).0
none_named d (computed ∷ os) v none (inl e) = absurd (cc none)
none_named d (o ∷ os) v none (inr h) = none_named d os v (neither (may_be_variant d o) _ none).1 h

abbrev NoMatch : Resolved → Type 0
NoMatch r = r.reason ≢ TargetingMatch

default_given : (a : Asked) (o : Option (List ℕ × Shape)) (rs : List Reach) → NoMatch (given_default a o Default rs)
default_given a None rs = λ e. cc
default_given a (Some variant) rs = go (is_of_kind a.want variant.1)
  where
    go : (b : Bool) → NoMatch (cond b (record { value = variant.1; variant = Some variant.0; reason = Default; code = None; reached = rs }) (failed a TypeMismatch rs))
    go true = λ e. cc
    go false = λ e. cc

none_chosen : (a : Asked) (o : Option (List ℕ × Shape)) (rs : List Reach) → o ≡ None → NoMatch (chosen a o rs)
none_chosen a None rs e = λ f. cc
none_chosen a (Some variant) rs e = absurd (cc e)

no_match : (a : Asked) (d : Definition) (v : Shape) (rs : List Reach) → option_and_then (variant_named d) (name_in v) ≡ None → NoMatch (targeted a d v rs)
no_match a d null rs h = default_given a (default_of d) rs
no_match a d (boolean b) rs h = none_chosen a _ rs h
no_match a d (whole n) rs h = none_chosen a _ rs h
no_match a d shape.other rs h = none_chosen a _ rs h
no_match a d (text s) rs h = none_chosen a _ rs h
no_match a d (shape.list ts) rs h = none_chosen a _ rs h
no_match a d (shape.object ms) rs h = none_chosen a _ rs h

not_true : (b : Bool) → not b ≡ true → b ≡ false
not_true true h = absurd (cc h)
not_true false h = refl

evaluated_so : (a : Asked) (d : Definition) (e : Expression) (s : Situation) → never_gives d e ≡ true → NoMatch (evaluated a d (evaluation_of e s))
evaluated_so a d e s never = go (evaluation_of e s) refl
  where
    go : (o : Result (Shape × List Reach) EvalFault) → evaluation_of e s ≡ o → NoMatch (evaluated a d o)
    go (Err f) is = λ g. cc
    go (Ok (v, rs)) is = no_match a d v rs (none_named d (outcomes e) v (not_true _ never) (each_value e s v rs is))

either_so : (b : Bool) (r s : Resolved) → NoMatch r → NoMatch s → NoMatch (cond b r s)
either_so true r s h k = h
either_so false r s h k = k

with_targeting : (a : Asked) (d : Definition) (s : Situation) (t : Option Expression) → passes (never_gives d) t ≡ true → NoMatch (enabled a d t s)
with_targeting a d s None h = absurd (cc h)
with_targeting a d s (Some e) h = evaluated_so a d e s h

defined_so : (a : Asked) (d : Definition) (s : Situation) → gives_none d ≡ true → NoMatch (defined a d s)
defined_so a broken s h = absurd (cc h)
defined_so a (good r) s h = either_so r.enabled _ _ (with_targeting a (good r) s r.targeting h) (λ e. cc)

pub never_matches : NeverMatches
unfolding resolution_of
never_matches flags d a s is never = either_so (is_none (as_object s.context)) _ _ (λ e. cc) (subst (λ o. NoMatch (found a o s)) (sym is) (defined_so a d s never))
