-- The parts of a good definition, and that the rules that they make can be printed and read again.
use Rattle.std.proofs.Common.{◌≡◌, ℕ, List, codes, Bool, true, false, not, ◌&&◌, cond, Option, Some, None, option_map, is_some, Result, Ok, Err, refl, sym, ap, ap₂, ◌∙◌, subst}
use Rattle.std.specs.Prelude.{option_and_then}
use Rattle.std.specs.Result.{result_ok}
use Rattle.flag_text.specs.Readers.{as_object, find_member}
use Rattle.flag_text.specs.Shape.{Shape, null, boolean, whole, other, text, list, object, Members, no_members, member, is_whole}
use Rattle.flag_text.proofs.Bools.{both, left, right}
use Rattle.logic_ast.specs.Expression.{Expression}
use Rattle.logic_ast.specs.FirstFault.{object_fault, site_fault, operator_fault, argument_count, arguments_fault, first}
use Rattle.logic_ast.specs.Formed.{is_well_formed}
use Rattle.logic_ast.specs.Operator.{operator_of, is_fractional}
use Rattle.logic_ast.specs.Reading.{reading, expression_from, object_from, site_from, arguments_from, operation_of}
use Rattle.logic_ast.specs.Writing.{written}
use Rattle.logic_ast.specs.declared.fault.LogicFault.{LogicFault}
use Rattle.logic_ast.specs.declared.operator.Operator.{Operator}
use Rattle.logic_ast.proofs.WellFormed.{is_well_formed-from}
use Rattle.flag_defs.specs.Definition.{Rules, IsGood, HasTargeting, state_of, variants_of, default_of, or_null, targeting_of, are_variants}
use Rattle.flag_defs.specs.Document.{or_no_members}
use Rattle.flag_references.specs.Inlining.{has_reference}
use Rattle.flag_defs.specs.Outline.{Outline, outline_of, with_state, with_variants, rules_with}
use Rattle.flag_defs.specs.Rules.{has_members, is_targeting, are_targetings, is_default, are_rules}
use Rattle.flag_defs.proofs.Clear.{clear}
use Rattle.flag_defs.proofs.Unreferred.{false_of_not, not_false}
use Rattle.flag_defs.proofs.Weighed.{is_read}

-- ---- outlines

abbrev pub found : List ℕ → Members → Option Shape
found name ms = find_member name ms

-- a good definition has an outline
pub outline_of_good : (evaluators ms : Members) (r : Rules) → IsGood evaluators ms r → outline_of ms ≡ Some (record { enabled = r.enabled; variants = r.variants; default_variant = r.default_variant })
outline_of_good evaluators ms r h =
    ap (option_and_then (with_state ms)) h.state
    ∙ (ap (option_and_then (with_variants ms r.enabled)) h.variants
    ∙ ap (option_map (λ d. let o : Outline = record { enabled = r.enabled; variants = r.variants; default_variant = d } in o)) h.default_variant)

-- the parts of an outline are those of the definition
pub record IsOutline (ms : Members) (o : Outline) : Type 0 where
  pub state : state_of (found (codes "state") ms) ≡ Some o.enabled
  pub variants : variants_of (found (codes "variants") ms) ≡ Some o.variants
  pub default_variant : default_of o.variants (found (codes "defaultVariant") ms) ≡ Some o.default_variant

from_default : (ms : Members) (enabled : Bool) (vs : Members) (d : Option (Option (List ℕ))) (o : Outline) → state_of (found (codes "state") ms) ≡ Some enabled → variants_of (found (codes "variants") ms) ≡ Some vs
    → default_of vs (found (codes "defaultVariant") ms) ≡ d → option_map (λ x. let y : Outline = record { enabled = enabled; variants = vs; default_variant = x } in y) d ≡ Some o → IsOutline ms o
from_default ms enabled vs None o p q r h = cc
from_default ms enabled vs (Some x) o p q r h =
    let same : (let y : Outline = record { enabled = enabled; variants = vs; default_variant = x } in y) ≡ o = cc in
    subst (IsOutline ms) same (record { state = p; variants = q; default_variant = r })

from_variants : (ms : Members) (enabled : Bool) (v : Option Members) (o : Outline) → state_of (found (codes "state") ms) ≡ Some enabled → variants_of (found (codes "variants") ms) ≡ v
    → option_and_then (with_variants ms enabled) v ≡ Some o → IsOutline ms o
from_variants ms enabled None o p q h = cc
from_variants ms enabled (Some vs) o p q h = from_default ms enabled vs (default_of vs (found (codes "defaultVariant") ms)) o p q refl h

from_state : (ms : Members) (s : Option Bool) (o : Outline) → state_of (found (codes "state") ms) ≡ s → option_and_then (with_state ms) s ≡ Some o → IsOutline ms o
from_state ms None o p h = cc
from_state ms (Some enabled) o p h = from_variants ms enabled (variants_of (found (codes "variants") ms)) o p refl h

pub is_outline : (ms : Members) (o : Outline) → outline_of ms ≡ Some o → IsOutline ms o
is_outline ms o h = from_state ms (state_of (found (codes "state") ms)) o refl h

-- ---- lawful parts

chosen_variants : (b : Bool) (ms vs : Members) → are_variants ms ≡ b → cond b (Some ms) None ≡ Some vs → are_variants vs ≡ true
chosen_variants true ms vs is h = let same : ms ≡ vs = cc in ap are_variants (sym same) ∙ is
chosen_variants false ms vs is h = cc

pub lawful_variants : (o : Option Shape) (vs : Members) → variants_of o ≡ Some vs → are_variants vs ≡ true
lawful_variants None vs h = cc
lawful_variants (Some null) vs h = cc
lawful_variants (Some (boolean b)) vs h = cc
lawful_variants (Some (whole n)) vs h = cc
lawful_variants (Some other) vs h = cc
lawful_variants (Some (text s)) vs h = cc
lawful_variants (Some (list ts)) vs h = cc
lawful_variants (Some (object ms)) vs h = chosen_variants (are_variants ms) ms vs refl h

none_named : (vs : Members) (d : Option (List ℕ)) → Some None ≡ Some d → is_default vs d ≡ true
none_named vs None h = refl
none_named vs (Some s) h = cc

chosen_default : (b : Bool) (vs : Members) (s : List ℕ) (d : Option (List ℕ)) → is_some (find_member s vs) ≡ b → cond b (Some (Some s)) None ≡ Some d → is_default vs d ≡ true
chosen_default true vs s None is h = cc
chosen_default true vs s (Some x) is h = let same : s ≡ x = cc in ap (λ y. is_some (find_member y vs)) (sym same) ∙ is
chosen_default false vs s d is h = cc

lawful_default : (vs : Members) (o : Option Shape) (d : Option (List ℕ)) → default_of vs o ≡ Some d → is_default vs d ≡ true
lawful_default vs None d h = none_named vs d h
lawful_default vs (Some null) d h = none_named vs d h
lawful_default vs (Some (boolean b)) d h = cc
lawful_default vs (Some (whole n)) d h = cc
lawful_default vs (Some other) d h = cc
lawful_default vs (Some (text s)) d h = chosen_default (is_some (find_member s vs)) vs s d refl h
lawful_default vs (Some (list ts)) d h = cc
lawful_default vs (Some (object ms)) d h = cc

-- ---- targetings

operator_object : (o : Option Operator) (k n : ℕ) (t : Shape) → first (operator_fault o n) (arguments_fault t) ≡ None → has_members (written (operation_of o (arguments_from k t))) ≡ true
operator_object None k n t h = cc
operator_object (Some o) k n t h = refl

site_object : (k : ℕ) (t : Shape) → has_members (written (site_from k t)) ≡ true
site_object k null = refl
site_object k (boolean b) = refl
site_object k (whole n) = refl
site_object k other = refl
site_object k (text s) = refl
site_object k (list ts) = refl
site_object k (object ms) = refl

operation_object : (b : Bool) (k : ℕ) (o : Option Operator) (t : Shape) → cond b (site_fault t) (first (operator_fault o (argument_count t)) (arguments_fault t)) ≡ None
    → has_members (written (cond b (site_from k t) (operation_of o (arguments_from k t)))) ≡ true
operation_object true k o t h = site_object k t
operation_object false k o t h = operator_object o k (argument_count t) t h

-- an object that is not empty is written as one
stays_object : (k : ℕ) (ms : Members) → has_members (object ms) ≡ true → object_fault ms ≡ None → has_members (written (object_from k ms)) ≡ true
stays_object k no_members h f = h
stays_object k (member name t no_members) h f = operation_object (is_fractional name) k (operator_of name) t f
stays_object k (member name t (member l u ms)) h f = refl

-- a tree that is read as a targeting
read_lawful : (ms : Members) (e : Expression) → has_members (object ms) ≡ true → is_whole (object ms) ≡ true → has_reference (object ms) ≡ false → reading (object ms) ≡ Ok e → is_targeting e ≡ true
read_lawful ms e h w c r =
    let is = is_read (object ms) e r in
    let x = expression_from 0 (object ms) in
    ap is_targeting (sym is.same)
    ∙ both (is_well_formed x) _ (is_well_formed-from (object ms) w is.fits is.sound)
    (both (has_members (written x)) _ (stays_object 0 ms h is.sound) (not_false (has_reference (written x)) (clear 0 (object ms) c)))

read_chosen : (b : Bool) (ms : Members) (r : Result Expression LogicFault) (e : Option Expression) → (is_whole (object ms) && not (has_reference (object ms))) ≡ b → reading (object ms) ≡ r → has_members (object ms) ≡ true
    → cond b (option_map Some (result_ok r)) None ≡ Some e → are_targetings e ≡ true
read_chosen false ms r e is same h t = cc
read_chosen true ms (Err f) e is same h t = cc
read_chosen true ms (Ok x) e is same h t =
    let some : Some x ≡ e = cc in
    let none = false_of_not (has_reference (object ms)) (right (is_whole (object ms)) (not (has_reference (object ms))) is) in
    subst (λ y. are_targetings y ≡ true) some (read_lawful ms x h (left (is_whole (object ms)) (not (has_reference (object ms))) is) none same)

no_targeting : (e : Option Expression) → Some None ≡ Some e → are_targetings e ≡ true
no_targeting None h = refl
no_targeting (Some x) h = cc

lawful_targeting : (u : Shape) (e : Option Expression) → targeting_of u ≡ Some e → are_targetings e ≡ true
lawful_targeting null e h = no_targeting e h
lawful_targeting (boolean b) e h = cc
lawful_targeting (whole z) e h = cc
lawful_targeting other e h = cc
lawful_targeting (text s) e h = cc
lawful_targeting (list ts) e h = cc
lawful_targeting (object no_members) e h = no_targeting e h
lawful_targeting (object (member k t ms)) e h = read_chosen (is_whole (object (member k t ms)) && not (has_reference (object (member k t ms)))) (member k t ms) (reading (object (member k t ms))) e refl refl refl h

-- ---- rules

-- an outline and a targeting make rules that can be printed and read again
pub lawful_with : (evaluators ms : Members) (o : Outline) (e : Option Expression) (t : Shape) → outline_of ms ≡ Some o → HasTargeting evaluators t e → are_rules (rules_with o e) ≡ true
lawful_with evaluators ms o e t h has =
    let parts = is_outline ms o h in
    both (are_variants o.variants) _ (lawful_variants (found (codes "variants") ms) o.variants parts.variants)
    (both (is_default o.variants o.default_variant) _ (lawful_default o.variants (found (codes "defaultVariant") ms) o.default_variant parts.default_variant) (lawful_targeting has.0 e has.2))

pub good_with : (evaluators ms : Members) (o : Outline) (e : Option Expression) → outline_of ms ≡ Some o → HasTargeting evaluators (or_null (found (codes "targeting") ms)) e → IsGood evaluators ms (rules_with o e)
good_with evaluators ms o e h has =
    let parts = is_outline ms o h in record { state = parts.state; variants = parts.variants; default_variant = parts.default_variant; targeting = has }

chosen_members : (b : Bool) (ms vs : Members) → cond b (Some ms) None ≡ Some vs → ms ≡ vs
chosen_members true ms vs h = cc
chosen_members false ms vs h = cc

-- variants are the members of the object that stands there
object_variants : (o : Option Shape) (vs : Members) → variants_of o ≡ Some vs → or_no_members (option_and_then as_object o) ≡ vs
object_variants None vs h = cc
object_variants (Some null) vs h = cc
object_variants (Some (boolean b)) vs h = cc
object_variants (Some (whole n)) vs h = cc
object_variants (Some other) vs h = cc
object_variants (Some (text s)) vs h = cc
object_variants (Some (list ts)) vs h = cc
object_variants (Some (object ms)) vs h = chosen_members (are_variants ms) ms vs h

-- the rules of an outline, with that object's members for its variants
pub moved-rules : (ms vs : Members) (d : Option (List ℕ)) (o : Outline) (e : Option Expression) → outline_of ms ≡ Some o → vs ≡ or_no_members (option_and_then as_object (found (codes "variants") ms)) → d ≡ o.default_variant
    → (let r : Rules = record { enabled = o.enabled; variants = vs; default_variant = d; targeting = e } in r) ≡ rules_with o e
moved-rules ms vs d o e h variants default_variant =
    ap₂ (λ (ws : Members) (b : Option (List ℕ)). let r : Rules = record { enabled = o.enabled; variants = ws; default_variant = b; targeting = e } in r)
    (variants ∙ object_variants (found (codes "variants") ms) o.variants (is_outline ms o h).variants) default_variant

pub rules_lawful : (evaluators ms : Members) (r : Rules) → IsGood evaluators ms r → are_rules r ≡ true
rules_lawful evaluators ms r h =
    both (are_variants r.variants) _ (lawful_variants (found (codes "variants") ms) r.variants h.variants)
    (both (is_default r.variants r.default_variant) _ (lawful_default r.variants (found (codes "defaultVariant") ms) r.default_variant h.default_variant) (lawful_targeting h.targeting.0 r.targeting h.targeting.2))

-- without an outline, or with a targeting that breaks it, a definition is broken
pub broken_outline : (evaluators ms : Members) → outline_of ms ≡ None → (r : Rules) → ¬ IsGood evaluators ms r
broken_outline evaluators ms none r h = let some = outline_of_good evaluators ms r h in cc

pub broken_targeting : (evaluators ms : Members) → ((e : Option Expression) → ¬ HasTargeting evaluators (or_null (found (codes "targeting") ms)) e) → (r : Rules) → ¬ IsGood evaluators ms r
broken_targeting evaluators ms none r h = none r.targeting h.targeting
