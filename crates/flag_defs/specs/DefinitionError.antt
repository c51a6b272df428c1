-- Why a flag is broken: the first rule of flag documents that its definition breaks (flagd: flag definitions).
use Rattle.std.specs.Prelude.{◌≡◌, ◌⊎◌, List, [], ◌∷◌, codes, Bool, true, false, not, ◌&&◌, nat_le, is_none, Option, Some, None, if◌then◌else◌}
use Rattle.limits.specs.Limits as limit
use Rattle.flag_text.specs.Readers.{find_member}
use Rattle.flag_text.specs.Shape.{Shape, null, object, Members, no_members, member, is_whole}
use Rattle.logic_ast.specs.Expression.{Expression}
use Rattle.logic_ast.specs.Size.{expression_size, is_over}
use Rattle.flag_defs.specs.Definition.{Rules, Means, broken, good, HasTargeting, are_of_one_kind, default_of, member_count, or_null, state_of, targeting_of, variants_of}
use Rattle.flag_references.specs.Inlining.{has_reference, IsInlined}
use Rattle.flag_references.specs.Readable.{is_within}
use Rattle.flag_defs.specs.Targeting.{IsGoodTargeting}
use Rattle.flag_defs.specs.declared.definition_error.DefinitionError.{DefinitionError}
use Rattle.flag_defs.specs.declared.definition_error.DefinitionError.TheVariants as definition_error
use Rattle.flag_references.specs.declared.measure.Measure.{Measure}

-- ---- beside the targeting

-- The first rule that does not hold of what is no variants: an object of 1 to 64, of one kind, whole, of at most 100 levels.
abbrev pub variants_rule : Option Shape → DefinitionError
variants_rule (Some (object vs)) =
    if not (nat_le 1 (member_count vs) && nat_le (member_count vs) limit.variants) then definition_error.Variants
    else (if not (are_of_one_kind vs) then definition_error.Kinds else (if not (is_whole (object vs)) then definition_error.VariantNumber else definition_error.VariantLevels))
variants_rule o = definition_error.Variants

-- the rule of variants, and then that of the default variant
abbrev pub variants_error : Option Members → Option Shape → Option Shape → Option DefinitionError
variants_error None v d = Some (variants_rule v)
variants_error (Some vs) v d = if is_none (default_of vs d) then Some definition_error.DefaultVariant else None

-- the rule of the state, and then these
abbrev pub outline_error : Members → Option DefinitionError
outline_error ms =
    if is_none (state_of (find_member (codes "state") ms)) then Some definition_error.State
    else variants_error (variants_of (find_member (codes "variants") ms)) (find_member (codes "variants") ms) (find_member (codes "defaultVariant") ms)

-- ---- the targeting

abbrev pub is_null_or_object : Shape → Bool
is_null_or_object null = true
is_null_or_object (object ms) = true
is_null_or_object t = false

-- The first rule that does not hold of a targeting without references which cannot be read: null or an object, of at most
-- 10,000 nodes and 100 levels, with whole numbers alone and no reference left, an expression.
abbrev pub form_rule : Shape → DefinitionError
form_rule u =
    if not (is_null_or_object u) then definition_error.Targeting
    else (if is_over (expression_size u) then definition_error.TargetingSize else (if not (is_whole u && not (has_reference u)) then definition_error.TargetingPart else definition_error.Expression))

-- the same by the tree at the end of its references and the measure of its form
abbrev pub end_rule : Shape → Measure → DefinitionError
end_rule t m =
    if not (is_null_or_object t) then definition_error.Targeting
    else (if not (is_within m.expression) then definition_error.TargetingSize else (if not m.full.is_sound then definition_error.TargetingPart else definition_error.Expression))

-- its form cannot be read by this rule, or it has no form, since a reference names nothing or leads back to itself
abbrev pub FormBreaks : Members → Shape → DefinitionError → Type 0
FormBreaks evaluators t b =
    ((u : Shape) × IsInlined evaluators t u × (targeting_of u ≡ None) × (b ≡ form_rule u)) ⊎ (((u : Shape) → ¬ IsInlined evaluators t u) × (b ≡ definition_error.Reference))

-- it is neither null nor an object, or breaks a rule with its references replaced
abbrev pub TargetingBreaks : Members → Shape → DefinitionError → Type 0
TargetingBreaks evaluators t b = ((is_null_or_object t ≡ false) × (b ≡ definition_error.Targeting)) ⊎ ((is_null_or_object t ≡ true) × FormBreaks evaluators t b)

-- whether a targeting is good, or the first rule that it breaks
abbrev pub TargetingTells : Members → Shape → Option DefinitionError → Type 0
TargetingTells evaluators t None = IsGoodTargeting evaluators t
TargetingTells evaluators t (Some b) = ((e : Option Expression) → ¬ HasTargeting evaluators t e) × TargetingBreaks evaluators t b

-- ---- a definition

abbrev pub OutlineBreaks : Members → Members → Option DefinitionError → DefinitionError → Type 0
OutlineBreaks evaluators ms (Some first) b = b ≡ first
OutlineBreaks evaluators ms None b = TargetingBreaks evaluators (or_null (find_member (codes "targeting") ms)) b

-- this is the first rule that the definition breaks
abbrev pub Breaks : Members → Shape → DefinitionError → Type 0
Breaks evaluators (object ms) b = OutlineBreaks evaluators ms (outline_error ms) b
Breaks evaluators t b = b ≡ definition_error.Definition

-- whether a definition makes a good flag, or the first rule that it breaks
abbrev pub Tells : Members → Shape → Option DefinitionError → Type 0
Tells evaluators t None = (r : Rules) × Means evaluators t (good r)
Tells evaluators t (Some b) = Means evaluators t broken × Breaks evaluators t b

-- the same of each of these
abbrev pub AllTell : Members → Members → List (Option DefinitionError) → Type 0
AllTell evaluators no_members [] = Unit {0}
AllTell evaluators no_members (b ∷ bs) = ⊥
AllTell evaluators (member k t ms) [] = ⊥
AllTell evaluators (member k t ms) (b ∷ bs) = Tells evaluators t b × AllTell evaluators ms bs
