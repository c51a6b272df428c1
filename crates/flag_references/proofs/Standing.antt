-- Names that stand for the inlined forms of what they name: what is replaced by them is inlined, and nothing else is.
use Rattle.std.proofs.Common.{◌≡◌, ℕ, zero, suc, ◌+◌, Option, Some, None, option_map, option_and_then, List, refl, sym, ap, ◌∙◌, arith, add_comm}
use Rattle.flag_text.specs.Readers.{find_member}
use Rattle.flag_text.specs.Shape.{Shape, null, boolean, whole, other, text, list, object, Items, no_items, item, Members, no_members, member}
use Rattle.flag_references.specs.Inlining.{reference_of, by_reference, replaced, items_replaced, members_replaced, inlined, IsInlined}
use Rattle.flag_references.specs.Table.{IsClosed}
use Rattle.flag_references.proofs.Inlined.{map_some, and_then_some, Gains, replaced-gains, items_replaced-gains, members_replaced-gains, refers, inlined-add, one_form}

-- each name that stands for a form names a tree with this form
abbrev pub Stands : Members → (List ℕ → Option Shape) → Type 0
Stands evaluators s = (name : List ℕ) (v : Shape) → s name ≡ Some v → (t : Shape) × (find_member name evaluators ≡ Some t) × IsInlined evaluators t v

-- what stands for a name in a form of depth n
abbrev pub refer_at : Members → ℕ → List ℕ → Option Shape
refer_at evaluators zero name = None
refer_at evaluators (suc n) name = refers evaluators n name

pub inlined-is : (evaluators : Members) (n : ℕ) (t : Shape) → inlined n evaluators t ≡ replaced (refer_at evaluators n) t
inlined-is evaluators zero t = refl
inlined-is evaluators (suc n) t = refl

pub refer_at-add : (evaluators : Members) (k n : ℕ) → Gains (refer_at evaluators n) (refer_at evaluators (k + n))
refer_at-add evaluators k zero name v e = cc
refer_at-add evaluators k (suc n) name v e =
    let z : suc (k + n) ≡ k + suc n = omega arith in
    let f = and_then_some (inlined n evaluators) (find_member name evaluators) v e in
    ap (λ d. refer_at evaluators d name) (sym z) ∙ (ap (option_and_then (inlined (k + n) evaluators)) f.1 ∙ inlined-add evaluators k n f.0 v f.2)

pub refer_at-left : (evaluators : Members) (n k : ℕ) → Gains (refer_at evaluators n) (refer_at evaluators (n + k))
refer_at-left evaluators n k name v e = ap (λ d. refer_at evaluators d name) (add_comm n k) ∙ refer_at-add evaluators k n name v e

object_inlined : (evaluators : Members) (s : List ℕ → Option Shape) → Stands evaluators s → (o : Option (List ℕ)) (ms : Members) (u : Shape)
    → ((ns : Members) → members_replaced s ms ≡ Some ns → (n : ℕ) × (members_replaced (refer_at evaluators n) ms ≡ Some ns))
    → by_reference s o (members_replaced s ms) ≡ Some u
    → (n : ℕ) × (by_reference (refer_at evaluators n) o (members_replaced (refer_at evaluators n) ms) ≡ Some u)
object_inlined evaluators s stands None ms u h e =
    let k = map_some object (members_replaced s ms) u e in
    let l = h k.0 k.1 in (l.0, ap (option_map object) l.1 ∙ ap Some k.2)
object_inlined evaluators s stands (Some name) ms u h e =
    let k = stands name u e in (suc k.2.0, ap (option_and_then (inlined k.2.0 evaluators)) k.1 ∙ k.2.1)

mutual
  deep : (evaluators : Members) (s : List ℕ → Option Shape) → Stands evaluators s → (t u : Shape) → replaced s t ≡ Some u → (n : ℕ) × (replaced (refer_at evaluators n) t ≡ Some u)
  deep evaluators s stands null u e = (0, e)
  deep evaluators s stands (boolean b) u e = (0, e)
  deep evaluators s stands (whole n) u e = (0, e)
  deep evaluators s stands other u e = (0, e)
  deep evaluators s stands (text x) u e = (0, e)
  deep evaluators s stands (list ts) u e =
      let k = map_some list (items_replaced s ts) u e in
      let l = items_deep evaluators s stands ts k.0 k.1 in (l.0, ap (option_map list) l.1 ∙ ap Some k.2)
  deep evaluators s stands (object ms) u e =
      object_inlined evaluators s stands (reference_of ms) ms u (λ ns k. members_deep evaluators s stands ms ns k) e

  items_deep : (evaluators : Members) (s : List ℕ → Option Shape) → Stands evaluators s → (ts us : Items) → items_replaced s ts ≡ Some us
      → (n : ℕ) × (items_replaced (refer_at evaluators n) ts ≡ Some us)
  items_deep evaluators s stands no_items us e = (0, e)
  items_deep evaluators s stands (item t ts) us e =
      let k = and_then_some (λ u. option_map (item u) (items_replaced s ts)) (replaced s t) us e in
      let l = map_some (item k.0) (items_replaced s ts) us k.2 in
      let a = deep evaluators s stands t k.0 k.1 in
      let b = items_deep evaluators s stands ts l.0 l.1 in
      let r = refer_at evaluators (a.0 + b.0) in (
        a.0 + b.0,
        ap (option_and_then (λ u. option_map (item u) (items_replaced r ts))) (replaced-gains (refer_at evaluators a.0) r (refer_at-left evaluators a.0 b.0) t k.0 a.1)
            ∙ (ap (option_map (item k.0)) (items_replaced-gains (refer_at evaluators b.0) r (refer_at-add evaluators a.0 b.0) ts l.0 b.1) ∙ ap Some l.2),
      )

  members_deep : (evaluators : Members) (s : List ℕ → Option Shape) → Stands evaluators s → (ms ns : Members) → members_replaced s ms ≡ Some ns
      → (n : ℕ) × (members_replaced (refer_at evaluators n) ms ≡ Some ns)
  members_deep evaluators s stands no_members ns e = (0, e)
  members_deep evaluators s stands (member x t ms) ns e =
      let k = and_then_some (λ u. option_map (member x u) (members_replaced s ms)) (replaced s t) ns e in
      let l = map_some (member x k.0) (members_replaced s ms) ns k.2 in
      let a = deep evaluators s stands t k.0 k.1 in
      let b = members_deep evaluators s stands ms l.0 l.1 in
      let r = refer_at evaluators (a.0 + b.0) in (
        a.0 + b.0,
        ap (option_and_then (λ u. option_map (member x u) (members_replaced r ms))) (replaced-gains (refer_at evaluators a.0) r (refer_at-left evaluators a.0 b.0) t k.0 a.1)
            ∙ (ap (option_map (member x k.0)) (members_replaced-gains (refer_at evaluators b.0) r (refer_at-add evaluators a.0 b.0) ms l.0 b.1) ∙ ap Some l.2),
      )

-- what is replaced by names that stand for forms is a form
pub inlined-replaced : (evaluators : Members) (s : List ℕ → Option Shape) → Stands evaluators s → (t u : Shape) → replaced s t ≡ Some u → IsInlined evaluators t u
inlined-replaced evaluators s stands t u e = let k = deep evaluators s stands t u e in (k.0, inlined-is evaluators k.0 t ∙ k.1)

stands_for : (evaluators : Members) (s : List ℕ → Option Shape) → Stands evaluators s → IsClosed evaluators s → (name : List ℕ) (t v : Shape) (o : Option Shape)
    → s name ≡ o → find_member name evaluators ≡ Some t → IsInlined evaluators t v → replaced s t ≡ Some v → s name ≡ Some v
stands_for evaluators s stands closed name t v None is found form e = let none : replaced s t ≡ None = closed name t found is in cc
stands_for evaluators s stands closed name t v (Some w) is found form e =
    let k = stands name w is in
    let same : k.0 ≡ t = cc (k.1, found) in
    let other : IsInlined evaluators t w = (k.2.0, ap (inlined k.2.0 evaluators) (sym same) ∙ k.2.1) in
    is ∙ ap Some (one_form evaluators t w v other form)

-- where the names that stand for nothing are closed, there is no other form
pub replaced-inlined : (evaluators : Members) (s : List ℕ → Option Shape) → Stands evaluators s → IsClosed evaluators s
    → (n : ℕ) (t u : Shape) → inlined n evaluators t ≡ Some u → replaced s t ≡ Some u
replaced-inlined evaluators s stands closed zero t u e = replaced-gains (λ name. None) s (λ name v k. cc) t u e
replaced-inlined evaluators s stands closed (suc n) t u e =
    replaced-gains (refers evaluators n) s
    (λ name v k.
    let f = and_then_some (inlined n evaluators) (find_member name evaluators) v k in
    stands_for evaluators s stands closed name f.0 v (s name) refl f.1 (n, f.2) (replaced-inlined evaluators s stands closed n f.0 v f.2))
    t u e
