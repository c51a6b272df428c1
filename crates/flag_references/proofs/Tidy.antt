-- What is inlined in a tidy tree from tidy evaluators is tidy.
use Rattle.std.proofs.Common.{◌≡◌, ℕ, zero, suc, Option, Some, None, option_map, option_and_then, true, List, ◌&&◌, sym, ap, ◌∙◌, subst}
use Rattle.flag_text.proofs.Bools.{both, left, right, Holds}
use Rattle.flag_text.proofs.Halving.{is_tidy-find_member}
use Rattle.flag_text.specs.Readers.{find_member}
use Rattle.flag_text.specs.Shape.{Shape, null, boolean, whole, other, text, list, object, Items, no_items, item, Members, no_members, member, comes_first, is_tidy, items_are_tidy, members_are_tidy}
use Rattle.flag_references.specs.Inlining.{reference_of, by_reference, replaced, items_replaced, members_replaced, inlined, IsInlined}
use Rattle.flag_references.proofs.Inlined.{map_some, and_then_some}

-- whatever it gives is tidy
abbrev GivesTidy : (List ℕ → Option Shape) → Type 0
GivesTidy s = (name : List ℕ) (v : Shape) → s name ≡ Some v → is_tidy v ≡ true

-- the names stay
comes_first-replaced : (s : List ℕ → Option Shape) (k : List ℕ) (ms ns : Members) → members_replaced s ms ≡ Some ns → comes_first k ns ≡ comes_first k ms
comes_first-replaced s k no_members ns e = let same : no_members ≡ ns = cc in ap (comes_first k) (sym same)
comes_first-replaced s k (member l t ms) ns e =
    let a = and_then_some (λ u. option_map (member l u) (members_replaced s ms)) (replaced s t) ns e in
    let b = map_some (member l a.0) (members_replaced s ms) ns a.2 in
    ap (comes_first k) (sym b.2)

object-tidy : (s : List ℕ → Option Shape) → GivesTidy s → (o : Option (List ℕ)) (a : Option Members) (u : Shape) → ((ns : Members) → a ≡ Some ns → members_are_tidy ns ≡ true)
    → by_reference s o a ≡ Some u → is_tidy u ≡ true
object-tidy s g None a u h e = let k = map_some object a u e in ap is_tidy (sym k.2) ∙ h k.0 k.1
object-tidy s g (Some name) a u h e = g name u e

mutual
  replaced-tidy : (s : List ℕ → Option Shape) → GivesTidy s → (t u : Shape) → is_tidy t ≡ true → replaced s t ≡ Some u → is_tidy u ≡ true
  replaced-tidy s g null u h e = let same : null ≡ u = cc in ap is_tidy (sym same)
  replaced-tidy s g (boolean b) u h e = let same : boolean b ≡ u = cc in ap is_tidy (sym same)
  replaced-tidy s g (whole n) u h e = let same : whole n ≡ u = cc in ap is_tidy (sym same) ∙ h
  replaced-tidy s g other u h e = let same : other ≡ u = cc in ap is_tidy (sym same)
  replaced-tidy s g (text x) u h e = let same : text x ≡ u = cc in ap is_tidy (sym same)
  replaced-tidy s g (list ts) u h e = let k = map_some list (items_replaced s ts) u e in ap is_tidy (sym k.2) ∙ items_replaced-tidy s g ts k.0 h k.1
  replaced-tidy s g (object ms) u h e = object-tidy s g (reference_of ms) (members_replaced s ms) u (λ ns k. members_replaced-tidy s g ms ns h k) e

  items_replaced-tidy : (s : List ℕ → Option Shape) → GivesTidy s → (ts us : Items) → items_are_tidy ts ≡ true → items_replaced s ts ≡ Some us → items_are_tidy us ≡ true
  items_replaced-tidy s g no_items us h e = let same : no_items ≡ us = cc in ap items_are_tidy (sym same)
  items_replaced-tidy s g (item t ts) us h e =
      let k = and_then_some (λ u. option_map (item u) (items_replaced s ts)) (replaced s t) us e in
      let l = map_some (item k.0) (items_replaced s ts) us k.2 in
      ap items_are_tidy (sym l.2)
      ∙ both (is_tidy k.0) _ (replaced-tidy s g t k.0 (left (is_tidy t) (items_are_tidy ts) h) k.1) (items_replaced-tidy s g ts l.0 (right (is_tidy t) (items_are_tidy ts) h) l.1)

  members_replaced-tidy : (s : List ℕ → Option Shape) → GivesTidy s → (ms ns : Members) → members_are_tidy ms ≡ true → members_replaced s ms ≡ Some ns → members_are_tidy ns ≡ true
  members_replaced-tidy s g no_members ns h e = let same : no_members ≡ ns = cc in ap members_are_tidy (sym same)
  members_replaced-tidy s g (member x t ms) ns h e =
      let k = and_then_some (λ u. option_map (member x u) (members_replaced s ms)) (replaced s t) ns e in
      let l = map_some (member x k.0) (members_replaced s ms) ns k.2 in
      let rest = right (comes_first x ms) (is_tidy t && members_are_tidy ms) h in
      ap members_are_tidy (sym l.2)
      ∙ both (comes_first x l.0) _ (comes_first-replaced s x ms l.0 l.1 ∙ left (comes_first x ms) (is_tidy t && members_are_tidy ms) h)
      (both (is_tidy k.0) _ (replaced-tidy s g t k.0 (left (is_tidy t) (members_are_tidy ms) rest) k.1) (members_replaced-tidy s g ms l.0 (right (is_tidy t) (members_are_tidy ms) rest) l.1))

inlined-tidy : (evaluators : Members) → members_are_tidy evaluators ≡ true → (n : ℕ) (t u : Shape) → is_tidy t ≡ true → inlined n evaluators t ≡ Some u → is_tidy u ≡ true
inlined-tidy evaluators tidy zero t u h e = replaced-tidy (λ name. None) (λ name v k. cc) t u h e
inlined-tidy evaluators tidy (suc n) t u h e =
    replaced-tidy (λ name. option_and_then (inlined n evaluators) (find_member name evaluators))
    (λ name v k.
    let f = and_then_some (inlined n evaluators) (find_member name evaluators) v k in
    inlined-tidy evaluators tidy n f.0 v (subst (Holds is_tidy) f.1 (is_tidy-find_member name evaluators tidy)) f.2)
    t u h e

pub form-tidy : (evaluators : Members) → members_are_tidy evaluators ≡ true → (t u : Shape) → is_tidy t ≡ true → IsInlined evaluators t u → is_tidy u ≡ true
form-tidy evaluators tidy t u h p = inlined-tidy evaluators tidy p.0 t u h p.1
