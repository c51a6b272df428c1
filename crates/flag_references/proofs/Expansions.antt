-- Trees and their parts: what has a form, part by part, and what the forms of the parts make together.
use Rattle.std.proofs.Common.{◌≡◌, ℕ, zero, suc, ◌+◌, ◌-◌, ◌<◌, ◌≤◌, List, [], ◌∷◌, ◌++◌, length, get_or, take, Bool, true, false, Option, Some, None, option_map, option_and_then, Vec, Global, Result, Ok, Err, IfOk, refl, sym, ap, ◌∙◌, subst, arith, rules}
use Rattle.flag_text.specs.Shape.{Shape, null, boolean, whole, other, text, list, object, Items, no_items, item, Members, no_members, member, levels, items_levels, members_levels}
use Rattle.flag_text.specs.View.{view, items_view, members_view}
use Rattle.flag_text.specs.declared.tree.Tree.{Tree, the_lemmas as tree_lemmas}
use Rattle.flag_text.specs.declared.tree.Tree.TheVariants as variant
use Rattle.std.specs.declared.alloc.AllocError.{AllocError}
use Rattle.flag_text.proofs.Halving.{name_of}
use Rattle.flag_text.proofs.Views.{Named}
use Rattle.logic_ast.proofs.Trees.{view-object}
use Rattle.flag_references.specs.Inlining.{reference_of, reference_in, by_reference, replaced, items_replaced, members_replaced, inlined, IsInlined}
use Rattle.flag_references.specs.Measure.{measure, measured, known}
use Rattle.flag_references.specs.Table.{KnowsAll, IsEndOf}
use Rattle.flag_references.specs.Forms.{HasForm, ItemsHaveForms, MembersHaveForms, AreInlined, MembersAreInlined}
use Rattle.flag_references.specs.declared.measure.Measure.{Measure}
use Rattle.flag_references.proofs.Inlined.{map_some, and_then_some, replaced-gains, items_replaced-gains, members_replaced-gains, one_form}
use Rattle.flag_references.proofs.Standing.{refer_at, inlined-is, refer_at-left, refer_at-add, replaced-inlined}
use Rattle.flag_references.proofs.Tables.{measured-known, stands}

-- ---- from the whole to its parts

items-forms : (evaluators : Members) (most n : ℕ) (ts us : Items) → items_replaced (refer_at evaluators n) ts ≡ Some us → items_levels us ≤ most → ItemsHaveForms evaluators most ts
items-forms evaluators most n no_items us e h = tt
items-forms evaluators most n (item t ts) us e h =
    let r = refer_at evaluators n in
    let k = and_then_some (λ u. option_map (item u) (items_replaced r ts)) (replaced r t) us e in
    let l = map_some (item k.0) (items_replaced r ts) us k.2 in
    let deep : items_levels (item k.0 l.0) ≤ most = omega (arith, ap items_levels l.2) in
    ((k.0, (n, inlined-is evaluators n t ∙ k.1), omega arith), items-forms evaluators most n ts l.0 l.1 (omega arith))

members-forms : (evaluators : Members) (most n : ℕ) (ms ns : Members) → members_replaced (refer_at evaluators n) ms ≡ Some ns → members_levels ns ≤ most → MembersHaveForms evaluators most ms
members-forms evaluators most n no_members ns e h = tt
members-forms evaluators most n (member x t ms) ns e h =
    let r = refer_at evaluators n in
    let k = and_then_some (λ u. option_map (member x u) (members_replaced r ms)) (replaced r t) ns e in
    let l = map_some (member x k.0) (members_replaced r ms) ns k.2 in
    let deep : members_levels (member x k.0 l.0) ≤ most = omega (arith, ap members_levels l.2) in
    ((k.0, (n, inlined-is evaluators n t ∙ k.1), omega arith), members-forms evaluators most n ms l.0 l.1 (omega arith))

pub list-forms : (evaluators : Members) (most : ℕ) (ts : Items) → HasForm evaluators most (list ts) → (1 ≤ most) × ItemsHaveForms evaluators (most - 1) ts
list-forms evaluators most ts f =
    let n = f.1.0 in
    let k = map_some list (items_replaced (refer_at evaluators n) ts) f.0 (sym (inlined-is evaluators n (list ts)) ∙ f.1.1) in
    let deep : levels (list k.0) ≤ most = omega (arith, ap levels k.2, f.2) in
    (omega arith, items-forms evaluators (most - 1) n ts k.0 k.1 (omega arith))

-- the form of an object that is no reference
pub object-form : (evaluators : Members) (n : ℕ) (ms : Members) (u : Shape) → reference_of ms ≡ None → inlined n evaluators (object ms) ≡ Some u
    → (ns : Members) × (members_replaced (refer_at evaluators n) ms ≡ Some ns) × (object ns ≡ u)
object-form evaluators n ms u plain e =
    let r = refer_at evaluators n in
    map_some object (members_replaced r ms) u (ap (λ o. by_reference r o (members_replaced r ms)) (sym plain) ∙ (sym (inlined-is evaluators n (object ms)) ∙ e))

pub object-forms : (evaluators : Members) (most : ℕ) (ms : Members) → reference_of ms ≡ None → HasForm evaluators most (object ms) → (1 ≤ most) × MembersHaveForms evaluators (most - 1) ms
object-forms evaluators most ms plain f =
    let n = f.1.0 in
    let k = object-form evaluators n ms f.0 plain f.1.1 in
    let deep : levels (object k.0) ≤ most = omega (arith, ap levels k.2, f.2) in
    (omega arith, members-forms evaluators (most - 1) n ms k.0 k.1 (omega arith))

-- ---- from the parts to the whole

items-inlined : (evaluators : Members) (ts us : Items) → AreInlined evaluators ts us → (n : ℕ) × (items_replaced (refer_at evaluators n) ts ≡ Some us)
items-inlined evaluators no_items no_items h = (0, refl)
items-inlined evaluators no_items (item u us) h = absurd h
items-inlined evaluators (item t ts) no_items h = absurd h
items-inlined evaluators (item t ts) (item u us) h =
    let a = h.0.0 in
    let b = items-inlined evaluators ts us h.1 in
    let r = refer_at evaluators (a + b.0) in
    let first = replaced-gains (refer_at evaluators a) r (refer_at-left evaluators a b.0) t u (sym (inlined-is evaluators a t) ∙ h.0.1) in
    let rest = items_replaced-gains (refer_at evaluators b.0) r (refer_at-add evaluators a b.0) ts us b.1 in
    (a + b.0, ap (option_and_then (λ v. option_map (item v) (items_replaced r ts))) first ∙ ap (option_map (item u)) rest)

members-inlined : (evaluators ms ns : Members) → MembersAreInlined evaluators ms ns → (n : ℕ) × (members_replaced (refer_at evaluators n) ms ≡ Some ns)
members-inlined evaluators no_members no_members h = (0, refl)
members-inlined evaluators no_members (member l u ns) h = absurd h
members-inlined evaluators (member k t ms) no_members h = absurd h
members-inlined evaluators (member k t ms) (member l u ns) h =
    let a = h.1.0 in
    let b = members-inlined evaluators ms ns h.2 in
    let r = refer_at evaluators (a + b.0) in
    let first = replaced-gains (refer_at evaluators a) r (refer_at-left evaluators a b.0) t u (sym (inlined-is evaluators a t) ∙ h.1.1) in
    let rest = members_replaced-gains (refer_at evaluators b.0) r (refer_at-add evaluators a b.0) ms ns b.1 in (
      a + b.0,
      ap (option_and_then (λ v. option_map (member k v) (members_replaced r ms))) first ∙ (ap (option_map (member k u)) rest ∙ ap (λ x. Some (member x u ns)) h.0),
    )

pub list-inlined : (evaluators : Members) (ts us : Items) → AreInlined evaluators ts us → IsInlined evaluators (list ts) (list us)
list-inlined evaluators ts us h = let p = items-inlined evaluators ts us h in (p.0, inlined-is evaluators p.0 (list ts) ∙ ap (option_map list) p.1)

pub object-inlined : (evaluators ms ns : Members) → reference_of ms ≡ None → MembersAreInlined evaluators ms ns → IsInlined evaluators (object ms) (object ns)
object-inlined evaluators ms ns plain h =
    let p = members-inlined evaluators ms ns h in
    let r = refer_at evaluators p.0 in
    (p.0, inlined-is evaluators p.0 (object ms) ∙ (ap (λ o. by_reference r o (members_replaced r ms)) plain ∙ ap (option_map object) p.1))

-- ---- the end of the references

pub end-form : (evaluators : Members) (most : ℕ) (t h : Shape) → IsEndOf evaluators t h → HasForm evaluators most t → HasForm evaluators most h
end-form evaluators most t h end f = (f.0, end.same f.0 f.1, f.2)

-- the form of the end is that of the tree
pub end-inlined : (evaluators : Members) (most : ℕ) (t h v : Shape) → IsEndOf evaluators t h → HasForm evaluators most t → IsInlined evaluators h v → IsInlined evaluators t v
end-inlined evaluators most t h v end f p = subst (IsInlined evaluators t) (one_form evaluators h f.0 v (end.same f.0 f.1) p) f.1

-- ---- what a table of all forms has for a tree with a form

pub form-measured : (evaluators : Members) (measures : List (Option Measure)) → KnowsAll evaluators measures → (t u : Shape) → IsInlined evaluators t u
    → measured (known evaluators measures) t ≡ Some (measure u)
form-measured evaluators measures k t u p =
    let s = known evaluators k.forms in
    let found : replaced s t ≡ Some u = replaced-inlined evaluators s (stands evaluators k.forms k.are_forms) k.closed p.0 t u p.1 in
    measured-known evaluators measures k.forms k.each t ∙ ap (option_map measure) found

-- ---- lists of trees

pub item-form : (evaluators : Members) (most : ℕ) (ts : List Tree) (i : ℕ) (d : Tree) → i < length ts → ItemsHaveForms evaluators most (items_view ts) → HasForm evaluators most (view (get_or ts i d))
item-form evaluators most [] i d h f = absurd (omega arith)
item-form evaluators most (t ∷ ts) zero d h f = f.0
item-form evaluators most (t ∷ ts) (suc i) d h f = item-form evaluators most ts i d (omega arith) f.1

pub member-form : (evaluators : Members) (most : ℕ) (ms : List Named) (i : ℕ) (d : Named) → i < length ms → MembersHaveForms evaluators most (members_view ms)
    → HasForm evaluators most (view (get_or ms i d).1)
member-form evaluators most [] i d h f = absurd (omega arith)
member-form evaluators most (m ∷ ms) zero d h f = f.0
member-form evaluators most (m ∷ ms) (suc i) d h f = member-form evaluators most ms i d (omega arith) f.1

-- one more at the end
pub AreInlined-more : (evaluators : Members) (ts us : List Tree) (i : ℕ) (d u : Tree) → i < length ts → AreInlined evaluators (items_view (take i ts)) (items_view us)
    → IsInlined evaluators (view (get_or ts i d)) (view u) → AreInlined evaluators (items_view (take (suc i) ts)) (items_view (us ++ u ∷ []))
AreInlined-more evaluators [] us i d u h f p = absurd (omega arith)
AreInlined-more evaluators (t ∷ ts) [] zero d u h f p = (p, tt)
AreInlined-more evaluators (t ∷ ts) (v ∷ us) zero d u h f p = absurd f
AreInlined-more evaluators (t ∷ ts) [] (suc i) d u h f p = absurd f
AreInlined-more evaluators (t ∷ ts) (v ∷ us) (suc i) d u h f p = (f.0, AreInlined-more evaluators ts us i d u (omega arith) f.1 p)

pub MembersAreInlined-more : (evaluators : Members) (ms ns : List Named) (i : ℕ) (d n : Named) → i < length ms → MembersAreInlined evaluators (members_view (take i ms)) (members_view ns)
    → name_of (get_or ms i d) ≡ name_of n → IsInlined evaluators (view (get_or ms i d).1) (view n.1)
    → MembersAreInlined evaluators (members_view (take (suc i) ms)) (members_view (ns ++ n ∷ []))
MembersAreInlined-more evaluators [] ns i d n h f e p = absurd (omega arith)
MembersAreInlined-more evaluators (m ∷ ms) [] zero d n h f e p = (e, p, tt)
MembersAreInlined-more evaluators (m ∷ ms) (v ∷ ns) zero d n h f e p = absurd f
MembersAreInlined-more evaluators (m ∷ ms) [] (suc i) d n h f e p = absurd f
MembersAreInlined-more evaluators (m ∷ ms) (v ∷ ns) (suc i) d n h f e p = (f.0, f.1, MembersAreInlined-more evaluators ms ns i d n (omega arith) f.2 e p)

-- ---- trees by what they are made of

pub view-list : (v : Vec Tree Global) → view (variant.List v) ≡ list (items_view v.items)
view-list v = search (rules, tree_lemmas)

-- the form of a list at the end of the references, from those of its items
pub list-end : (evaluators : Members) (most : ℕ) (t : Shape) (end : Tree) (v : Vec Tree Global) → end ≡ variant.List v → IsEndOf evaluators t (view end) → HasForm evaluators most t
    → (1 ≤ most) × ItemsHaveForms evaluators (most - 1) (items_view v.items)
list-end evaluators most t end v e h f =
    list-forms evaluators most (items_view v.items) (subst (HasForm evaluators most) (ap view e ∙ view-list v) (end-form evaluators most t (view end) h f))

pub list-whole : (evaluators : Members) (most : ℕ) (t : Shape) (end : Tree) (v w : Vec Tree Global) → end ≡ variant.List v → IsEndOf evaluators t (view end) → HasForm evaluators most t
    → AreInlined evaluators (items_view v.items) (items_view w.items) → IsInlined evaluators t (view (variant.List w))
list-whole evaluators most t end v w e h f p =
    let q = list-inlined evaluators (items_view v.items) (items_view w.items) p in
    end-inlined evaluators most t (view end) (view (variant.List w)) h f
    (subst (λ x. IsInlined evaluators x (view (variant.List w))) (sym (ap view e ∙ view-list v)) (subst (IsInlined evaluators (list (items_view v.items))) (sym (view-list w)) q))

no_reference : (evaluators : Members) (t : Shape) (end : Tree) (v : Vec Named Global) → end ≡ variant.Object v → IsEndOf evaluators t (view end) → reference_of (members_view v.items) ≡ None
no_reference evaluators t end v e h = ap reference_in (sym (ap view e ∙ view-object v)) ∙ h.ends

-- the same of an object
pub object-end : (evaluators : Members) (most : ℕ) (t : Shape) (end : Tree) (v : Vec Named Global) → end ≡ variant.Object v → IsEndOf evaluators t (view end) → HasForm evaluators most t
    → (1 ≤ most) × MembersHaveForms evaluators (most - 1) (members_view v.items)
object-end evaluators most t end v e h f =
    object-forms evaluators most (members_view v.items) (no_reference evaluators t end v e h)
    (subst (HasForm evaluators most) (ap view e ∙ view-object v) (end-form evaluators most t (view end) h f))

pub object-whole : (evaluators : Members) (most : ℕ) (t : Shape) (end : Tree) (v w : Vec Named Global) → end ≡ variant.Object v → IsEndOf evaluators t (view end) → HasForm evaluators most t
    → MembersAreInlined evaluators (members_view v.items) (members_view w.items) → IsInlined evaluators t (view (variant.Object w))
object-whole evaluators most t end v w e h f p =
    let q = object-inlined evaluators (members_view v.items) (members_view w.items) (no_reference evaluators t end v e h) p in
    end-inlined evaluators most t (view end) (view (variant.Object w)) h f
    (subst (λ x. IsInlined evaluators x (view (variant.Object w))) (sym (ap view e ∙ view-object v)) (subst (IsInlined evaluators (object (members_view v.items))) (sym (view-object w)) q))

-- no list and no object
abbrev pub is_scalar : Shape → Bool
is_scalar (list ts) = false
is_scalar (object ms) = false
is_scalar t = true

scalar-inlined : (evaluators : Members) (t : Shape) → is_scalar t ≡ true → IsInlined evaluators t t
scalar-inlined evaluators null h = (0, refl)
scalar-inlined evaluators (boolean b) h = (0, refl)
scalar-inlined evaluators (whole n) h = (0, refl)
scalar-inlined evaluators other h = (0, refl)
scalar-inlined evaluators (text x) h = (0, refl)
scalar-inlined evaluators (list ts) h = cc
scalar-inlined evaluators (object ms) h = cc

-- a scalar at the end of the references is its own form
pub scalar-whole : (evaluators : Members) (most : ℕ) (t end : Shape) → is_scalar end ≡ true → IsEndOf evaluators t end → HasForm evaluators most t
    → (r : Result Tree AllocError) → IfOk r (λ x. view x ≡ end) → IfOk r (λ x. IsInlined evaluators t (view x))
scalar-whole evaluators most t end scalar h f (Ok x) e = end-inlined evaluators most t end (view x) h f (subst (IsInlined evaluators end) (sym e) (scalar-inlined evaluators end scalar))
scalar-whole evaluators most t end scalar h f (Err x) e = tt
