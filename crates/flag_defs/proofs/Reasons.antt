-- The first rule that a definition breaks, by its outline and by the form of its targeting.
use Rattle.std.proofs.Common.{◌≡◌, ◌∷◌, ◌++◌, [], List, ℕ, Bool, true, false, not, ◌&&◌, cond, Option, Some, None, option_map, is_some, refl, sym, ap, ◌∙◌, subst, inl, inr, codes}
use Rattle.std.specs.Prelude.{is_none, option_and_then}
use Rattle.flag_text.specs.Shape.{Shape, null, boolean, whole, other, text, list, object, Members, is_tidy, is_whole, members_are_tidy}
use Rattle.flag_text.specs.View.{view, members_view}
use Rattle.flag_text.proofs.Views.{Named}
use Rattle.logic_ast.specs.Expression.{Expression}
use Rattle.logic_ast.specs.Size.{expression_size, is_over}
use Rattle.flag_defs.specs.DefinitionError.{AllTell, OutlineBreaks, TargetingBreaks, TargetingTells, Tells, end_rule, form_rule, is_null_or_object, outline_error, variants_error}
use Rattle.flag_defs.specs.Definition.{HasTargeting, default_of, or_null, state_of, targeting_of, variants_of}
use Rattle.flag_references.specs.Inlining.{IsInlined, by_reference, has_reference, items_replaced, members_replaced, reference_in, replaced}
use Rattle.flag_references.specs.Measure.{measure}
use Rattle.flag_defs.specs.Outline.{Outline, outline_of, rules_with, with_state, with_variants}
use Rattle.flag_references.specs.Readable.{is_within}
use Rattle.flag_references.specs.Table.{IsEndOf}
use Rattle.flag_defs.specs.declared.definition_error.DefinitionError.{DefinitionError}
use Rattle.flag_defs.specs.declared.definition_error.DefinitionError.TheVariants as definition_error
use Rattle.flag_references.specs.declared.measure.Measure.{Measure}
use Rattle.flag_references.proofs.Faults.{sound_full}
use Rattle.flag_references.proofs.Inlined.{map_some}
use Rattle.flag_defs.proofs.Outlines.{broken_outline, broken_targeting, found, good_with}
use Rattle.flag_references.proofs.Readable.{within_counts}
use Rattle.flag_references.proofs.Sizes.{counted}
use Rattle.flag_references.proofs.Standing.{inlined-is, refer_at}
use Rattle.flag_references.proofs.Tidy.{form-tidy}

-- ---- the outline

abbrev with_default : Bool → Members → Option (Option (List ℕ)) → Option Outline
with_default e vs x = option_map (λ d. record { enabled = e; variants = vs; default_variant = d }) x

default_told : (e : Bool) (vs : Members) (x : Option (Option (List ℕ))) → is_some (with_default e vs x) ≡ is_none (cond (is_none x) (Some definition_error.DefaultVariant) None)
default_told e vs None = refl
default_told e vs (Some d) = refl

variants_told : (ms : Members) (e : Bool) (v : Option Members) (w : Option Shape)
    → is_some (option_and_then (with_variants ms e) v) ≡ is_none (variants_error v w (found (codes "defaultVariant") ms))
variants_told ms e None w = refl
variants_told ms e (Some vs) w = default_told e vs (default_of vs (found (codes "defaultVariant") ms))

state_told : (ms : Members) (s : Option Bool) → is_some (option_and_then (with_state ms) s)
    ≡ is_none (cond (is_none s) (Some definition_error.State) (variants_error (variants_of (found (codes "variants") ms)) (found (codes "variants") ms) (found (codes "defaultVariant") ms)))
state_told ms None = refl
state_told ms (Some e) = variants_told ms e (variants_of (found (codes "variants") ms)) (found (codes "variants") ms)

-- there is an outline exactly where none of its rules is broken
outline_told : (ms : Members) → is_some (outline_of ms) ≡ is_none (outline_error ms)
outline_told ms = state_told ms (state_of (found (codes "state") ms))

there_is : {A : Type 0} (o : Option A) → is_some o ≡ true → (x : A) × (o ≡ Some x)
there_is None h = cc
there_is (Some x) h = (x, refl)

there_is_none : {A : Type 0} (o : Option A) → is_some o ≡ false → o ≡ None
there_is_none None h = refl
there_is_none (Some x) h = cc

pub outline_tells : (evaluators ms : Members) (b : DefinitionError) → outline_error ms ≡ Some b → Tells evaluators (object ms) (Some b)
outline_tells evaluators ms b is = (
  broken_outline evaluators ms (there_is_none (outline_of ms) (outline_told ms ∙ ap is_none is)),
  subst (λ o. OutlineBreaks evaluators ms o b) (sym is) refl,
)

pub targeting_tells : (evaluators ms : Members) (o : Option DefinitionError) → outline_error ms ≡ None → TargetingTells evaluators (or_null (found (codes "targeting") ms)) o → Tells evaluators (object ms) o
targeting_tells evaluators ms None is h =
    let outline = there_is (outline_of ms) (outline_told ms ∙ ap is_none is) in (rules_with outline.0 h.0, good_with evaluators ms outline.0 h.0 outline.1 h.1)
targeting_tells evaluators ms (Some b) is h = (broken_targeting evaluators ms h.0, subst (λ x. OutlineBreaks evaluators ms x b) (sym is) h.1)

-- ---- the targeting

-- what is no reference is of the same kind when the references in it are replaced
same_kind : (r : List ℕ → Option Shape) (h u : Shape) → reference_in h ≡ None → replaced r h ≡ Some u → is_null_or_object h ≡ is_null_or_object u
same_kind r null u ends e = let same : null ≡ u = cc in ap is_null_or_object same
same_kind r (boolean b) u ends e = let same : boolean b ≡ u = cc in ap is_null_or_object same
same_kind r (whole n) u ends e = let same : whole n ≡ u = cc in ap is_null_or_object same
same_kind r other u ends e = let same : other ≡ u = cc in ap is_null_or_object same
same_kind r (text s) u ends e = let same : text s ≡ u = cc in ap is_null_or_object same
same_kind r (list ts) u ends e = let k = map_some list (items_replaced r ts) u e in ap is_null_or_object k.2
same_kind r (object ms) u ends e =
    let k = map_some object (members_replaced r ms) u (ap (λ o. by_reference r o (members_replaced r ms)) (sym ends) ∙ e) in ap is_null_or_object k.2

end_kind : (evaluators : Members) (t h u : Shape) → IsEndOf evaluators t h → IsInlined evaluators t u → is_null_or_object h ≡ is_null_or_object u
end_kind evaluators t h u end p =
    let q = end.same u p in same_kind (refer_at evaluators q.0) h u end.ends (sym (inlined-is evaluators q.0 h) ∙ q.1)

same_rule : (a o p : Bool) → cond (not a) definition_error.Targeting (cond (not (not o)) definition_error.TargetingSize (cond (not p) definition_error.TargetingPart definition_error.Expression))
    ≡ cond (not a) definition_error.Targeting (cond o definition_error.TargetingSize (cond (not p) definition_error.TargetingPart definition_error.Expression))
same_rule false o p = refl
same_rule true true p = refl
same_rule true false p = refl

rule_of_form : (h u : Shape) (m : Measure) → is_null_or_object h ≡ is_null_or_object u → is_tidy u ≡ true → measure u ≡ m → end_rule h m ≡ form_rule u
rule_of_form h u m kind tidy same =
    let within : is_within m.expression ≡ not (is_over (expression_size u)) = ap (λ x. is_within x.expression) (sym same) ∙ within_counts (measure u).expression (expression_size u) (counted u).expression in
    let sound : m.full.is_sound ≡ (is_whole u && not (has_reference u)) = ap (λ x. x.full.is_sound) (sym same) ∙ sound_full u tidy in
    rw (kind, within, sound) (same_rule (is_null_or_object u) (is_over (expression_size u)) (is_whole u && not (has_reference u)))

unread : (evaluators : Members) (t u : Shape) → IsInlined evaluators t u → ((e : Option Expression) → ¬ HasTargeting evaluators t e) → (o : Option (Option Expression)) → targeting_of u ≡ o → targeting_of u ≡ None
unread evaluators t u p broken None is = is
unread evaluators t u p broken (Some e) is = absurd (broken e (u, p, is))

pub form_told : (evaluators : Members) (t h : Shape) (m : Measure) (b : DefinitionError) → members_are_tidy evaluators ≡ true → is_tidy t ≡ true → is_null_or_object t ≡ true → IsEndOf evaluators t h
    → ((u : Shape) × IsInlined evaluators t u × (measure u ≡ m)) → ((e : Option Expression) → ¬ HasTargeting evaluators t e) → b ≡ end_rule h m → TargetingBreaks evaluators t b
form_told evaluators t h m b all tidy kind end f broken is =
    let rule = rule_of_form h f.0 m (end_kind evaluators t h f.0 end f.1) (form-tidy evaluators all t f.0 tidy f.1) f.2 in
    inr (kind, inl (f.0, f.1, unread evaluators t f.0 f.1 broken (targeting_of f.0) refl, is ∙ rule))

-- ---- all definitions

pub all_tell_push : (evaluators : Members) (ms : List Named) (m : Named) (bs : List (Option DefinitionError)) (b : Option DefinitionError) → AllTell evaluators (members_view ms) bs → Tells evaluators (view m.1) b
    → AllTell evaluators (members_view (ms ++ m ∷ [])) (bs ++ b ∷ [])
all_tell_push evaluators [] m [] b a h = (h, tt)
all_tell_push evaluators [] m (x ∷ bs) b a h = absurd a
all_tell_push evaluators (n ∷ ms) m [] b a h = absurd a
all_tell_push evaluators (n ∷ ms) m (x ∷ bs) b a h = (a.0, all_tell_push evaluators ms m bs b a.1 h)
