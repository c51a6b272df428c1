-- Trees with their references replaced: more replacements replace more, and what is replaced one by one is inlined.
use Rattle.std.proofs.Common.{◌≡◌, ℕ, zero, suc, ◌+◌, Option, Some, None, option_map, option_and_then, List, refl, sym, ap, ◌∙◌, arith, add_comm}
use Rattle.flag_text.specs.Readers.{find_member}
use Rattle.flag_text.specs.Shape.{Shape, null, boolean, whole, other, text, list, object, Items, no_items, item, Members, no_members, member}
use Rattle.flag_references.specs.Inlining.{reference_of, by_reference, replaced, items_replaced, members_replaced, inlined, IsInlined}

pub map_some : {A B : Type 0} (f : A → B) (o : Option A) (y : B) → option_map f o ≡ Some y → (x : A) × (o ≡ Some x) × (f x ≡ y)
map_some f None y e = cc
map_some f (Some x) y e = (x, refl, cc)

pub and_then_some : {A B : Type 0} (f : A → Option B) (o : Option A) (y : B) → option_and_then f o ≡ Some y → (x : A) × (o ≡ Some x) × (f x ≡ Some y)
and_then_some f None y e = cc
and_then_some f (Some x) y e = (x, refl, e)

-- whatever the first replaces, the second replaces so too
abbrev pub Gains : (List ℕ → Option Shape) → (List ℕ → Option Shape) → Type 0
Gains r s = (name : List ℕ) (v : Shape) → r name ≡ Some v → s name ≡ Some v

by_reference-gains : (r s : List ℕ → Option Shape) → Gains r s → (o : Option (List ℕ)) (a b : Option Members) (u : Shape)
    → ((ms : Members) → a ≡ Some ms → b ≡ Some ms) → by_reference r o a ≡ Some u → by_reference s o b ≡ Some u
by_reference-gains r s g None a b u h e = let k = map_some object a u e in ap (option_map object) (h k.0 k.1) ∙ ap Some k.2
by_reference-gains r s g (Some name) a b u h e = g name u e

mutual
  pub replaced-gains : (r s : List ℕ → Option Shape) → Gains r s → (t u : Shape) → replaced r t ≡ Some u → replaced s t ≡ Some u
  replaced-gains r s g null u e = e
  replaced-gains r s g (boolean b) u e = e
  replaced-gains r s g (whole n) u e = e
  replaced-gains r s g other u e = e
  replaced-gains r s g (text x) u e = e
  replaced-gains r s g (list ts) u e = let k = map_some list (items_replaced r ts) u e in ap (option_map list) (items_replaced-gains r s g ts k.0 k.1) ∙ ap Some k.2
  replaced-gains r s g (object ms) u e =
      by_reference-gains r s g (reference_of ms) (members_replaced r ms) (members_replaced s ms) u (λ ns k. members_replaced-gains r s g ms ns k) e

  pub items_replaced-gains : (r s : List ℕ → Option Shape) → Gains r s → (ts us : Items) → items_replaced r ts ≡ Some us → items_replaced s ts ≡ Some us
  items_replaced-gains r s g no_items us e = e
  items_replaced-gains r s g (item t ts) us e =
      let k = and_then_some (λ u. option_map (item u) (items_replaced r ts)) (replaced r t) us e in
      let l = map_some (item k.0) (items_replaced r ts) us k.2 in
      ap (option_and_then (λ u. option_map (item u) (items_replaced s ts))) (replaced-gains r s g t k.0 k.1)
      ∙ (ap (option_map (item k.0)) (items_replaced-gains r s g ts l.0 l.1) ∙ ap Some l.2)

  pub members_replaced-gains : (r s : List ℕ → Option Shape) → Gains r s → (ms ns : Members) → members_replaced r ms ≡ Some ns → members_replaced s ms ≡ Some ns
  members_replaced-gains r s g no_members ns e = e
  members_replaced-gains r s g (member n t ms) ns e =
      let k = and_then_some (λ u. option_map (member n u) (members_replaced r ms)) (replaced r t) ns e in
      let l = map_some (member n k.0) (members_replaced r ms) ns k.2 in
      ap (option_and_then (λ u. option_map (member n u) (members_replaced s ms))) (replaced-gains r s g t k.0 k.1)
      ∙ (ap (option_map (member n k.0)) (members_replaced-gains r s g ms l.0 l.1) ∙ ap Some l.2)

-- what stands for a name, so many levels deep
abbrev pub refers : Members → ℕ → List ℕ → Option Shape
refers evaluators n name = option_and_then (inlined n evaluators) (find_member name evaluators)

refers_at : (evaluators : Members) (n m : ℕ) (o : Option Shape) (v : Shape) → ((t u : Shape) → inlined n evaluators t ≡ Some u → inlined m evaluators t ≡ Some u)
    → option_and_then (inlined n evaluators) o ≡ Some v → option_and_then (inlined m evaluators) o ≡ Some v
refers_at evaluators n m None v h e = e
refers_at evaluators n m (Some t) v h e = h t v e

nothing_first : (s : List ℕ → Option Shape) → Gains (λ name. None) s
nothing_first s name v e = cc

inlined-more : (evaluators : Members) (n : ℕ) (t u : Shape) → inlined n evaluators t ≡ Some u → inlined (suc n) evaluators t ≡ Some u
inlined-more evaluators zero t u e = replaced-gains (λ name. None) (refers evaluators 0) (nothing_first (refers evaluators 0)) t u e
inlined-more evaluators (suc n) t u e =
    replaced-gains (refers evaluators n) (refers evaluators (suc n))
    (λ name v k. refers_at evaluators n (suc n) (find_member name evaluators) v (inlined-more evaluators n) k) t u e

-- the same form at every greater depth
pub inlined-add : (evaluators : Members) (k n : ℕ) (t u : Shape) → inlined n evaluators t ≡ Some u → inlined (k + n) evaluators t ≡ Some u
inlined-add evaluators zero n t u e = let z : n ≡ 0 + n = omega arith in ap (λ d. inlined d evaluators t) (sym z) ∙ e
inlined-add evaluators (suc k) n t u e =
    let z : suc (k + n) ≡ suc k + n = omega arith in ap (λ d. inlined d evaluators t) (sym z) ∙ inlined-more evaluators (k + n) t u (inlined-add evaluators k n t u e)

same_some : (a b : Shape) (o : Option Shape) → o ≡ Some a → o ≡ Some b → a ≡ b
same_some a b o d e = cc

-- a tree has one form at most
pub one_form : (evaluators : Members) (t u v : Shape) → IsInlined evaluators t u → IsInlined evaluators t v → u ≡ v
one_form evaluators t u v p q =
    same_some u v (inlined (q.0 + p.0) evaluators t) (inlined-add evaluators q.0 p.0 t u p.1)
    (ap (λ d. inlined d evaluators t) (add_comm q.0 p.0) ∙ inlined-add evaluators p.0 q.0 t v q.1)
