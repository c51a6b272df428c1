-- What is measured with a measure in the place of each reference is the measure of the form.
use Rattle.std.proofs.Common.{◌≡◌, ℕ, suc, pos, negsuc, Option, Some, None, option_map, option_and_then, List, refl, sym, ap, ◌∙◌}
use Rattle.flag_text.specs.Shape.{Shape, null, boolean, whole, other, text, list, object, Items, no_items, item, Members, no_members, member}
use Rattle.logic_ast.specs.FirstFault.{item_count}
use Rattle.flag_references.specs.Inlining.{reference_of, by_reference, replaced, items_replaced, members_replaced}
use Rattle.flag_references.specs.Measure.{measure, parts, members_full, measured, parts_measured, object_measured, members_measured, referred, both, list_measure, item_in_front, member_in_front, literal_measure, operation_measure}
use Rattle.flag_references.specs.declared.measure.Measure.{Measure}
use Rattle.flag_references.specs.declared.measure.Parts.{Parts}
use Rattle.flag_references.proofs.Inlined.{map_some, and_then_some}

-- as many items as before
item_count-replaced : (s : List ℕ → Option Shape) (ts us : Items) → items_replaced s ts ≡ Some us → item_count us ≡ item_count ts
item_count-replaced s no_items us e = let none : no_items ≡ us = cc in ap item_count (sym none)
item_count-replaced s (item t ts) us e =
    let k = and_then_some (λ u. option_map (item u) (items_replaced s ts)) (replaced s t) us e in
    let l = map_some (item k.0) (items_replaced s ts) us k.2 in
    ap item_count (sym l.2) ∙ ap suc (item_count-replaced s ts l.0 l.1)

list_case : (n : ℕ) (o : Option Items) (p : Option Parts) → p ≡ option_map parts o → ((us : Items) → o ≡ Some us → item_count us ≡ n)
    → option_map (list_measure n) p ≡ option_map measure (option_map list o)
list_case n None p e h = ap (option_map (list_measure n)) e
list_case n (Some us) p e h = ap (option_map (list_measure n)) e ∙ ap (λ k. Some (list_measure k (parts us))) (sym (h us refl))

item_case : (o : Option Shape) (q : Option Items) → both item_in_front (option_map measure o) (option_map parts q) ≡ option_map parts (option_and_then (λ u. option_map (item u) q) o)
item_case None q = refl
item_case (Some u) None = refl
item_case (Some u) (Some us) = refl

member_case : (k : List ℕ) (o : Option Shape) (q : Option Members)
    → both (member_in_front k) (option_map measure o) (option_map members_full q) ≡ option_map members_full (option_and_then (λ u. option_map (member k u) q) o)
member_case k None q = refl
member_case k (Some u) None = refl
member_case k (Some u) (Some ms) = refl

one_case : (k : List ℕ) (o : Option Shape)
    → option_map (operation_measure k) (option_map measure o) ≡ option_map measure (option_map object (option_and_then (λ u. option_map (member k u) (Some no_members)) o))
one_case k None = refl
one_case k (Some u) = refl

many_case : (k l : List ℕ) (o p : Option Shape) (q : Option Members)
    → option_map literal_measure (both (member_in_front k) (option_map measure o) (both (member_in_front l) (option_map measure p) (option_map members_full q)))
    ≡ option_map measure (option_map object (option_and_then (λ u. option_map (member k u) (option_and_then (λ v. option_map (member l v) q) p)) o))
many_case k l None p q = refl
many_case k l (Some u) None q = refl
many_case k l (Some u) (Some v) None = refl
many_case k l (Some u) (Some v) (Some ms) = refl

object_case : (m : List ℕ → Option Measure) (s : List ℕ → Option Shape) → ((name : List ℕ) → m name ≡ option_map measure (s name)) → (o : Option (List ℕ)) (a : Option Measure) (b : Option Members)
    → a ≡ option_map measure (option_map object b) → referred m o a ≡ option_map measure (by_reference s o b)
object_case m s h None a b e = e
object_case m s h (Some name) a b e = h name

mutual
  pub measured-replaced : (m : List ℕ → Option Measure) (s : List ℕ → Option Shape) → ((name : List ℕ) → m name ≡ option_map measure (s name)) → (t : Shape)
      → measured m t ≡ option_map measure (replaced s t)
  measured-replaced m s h null = refl
  measured-replaced m s h (boolean b) = refl
  measured-replaced m s h (whole (pos n)) = refl
  measured-replaced m s h (whole (negsuc n)) = refl
  measured-replaced m s h other = refl
  measured-replaced m s h (text x) = refl
  measured-replaced m s h (list ts) = list_case (item_count ts) (items_replaced s ts) (parts_measured m ts) (parts-replaced m s h ts) (item_count-replaced s ts)
  measured-replaced m s h (object ms) = object_case m s h (reference_of ms) (object_measured m ms) (members_replaced s ms) (object-replaced m s h ms)

  parts-replaced : (m : List ℕ → Option Measure) (s : List ℕ → Option Shape) → ((name : List ℕ) → m name ≡ option_map measure (s name)) → (ts : Items)
      → parts_measured m ts ≡ option_map parts (items_replaced s ts)
  parts-replaced m s h no_items = refl
  parts-replaced m s h (item t ts) = rw (measured-replaced m s h t, parts-replaced m s h ts) (item_case (replaced s t) (items_replaced s ts))

  object-replaced : (m : List ℕ → Option Measure) (s : List ℕ → Option Shape) → ((name : List ℕ) → m name ≡ option_map measure (s name)) → (ms : Members)
      → object_measured m ms ≡ option_map measure (option_map object (members_replaced s ms))
  object-replaced m s h no_members = refl
  object-replaced m s h (member k t no_members) = rw (measured-replaced m s h t) (one_case k (replaced s t))
  object-replaced m s h (member k t (member l u ms)) =
      rw (measured-replaced m s h t, measured-replaced m s h u, members-replaced m s h ms) (many_case k l (replaced s t) (replaced s u) (members_replaced s ms))

  members-replaced : (m : List ℕ → Option Measure) (s : List ℕ → Option Shape) → ((name : List ℕ) → m name ≡ option_map measure (s name)) → (ms : Members)
      → members_measured m ms ≡ option_map members_full (members_replaced s ms)
  members-replaced m s h no_members = refl
  members-replaced m s h (member k t ms) = rw (measured-replaced m s h t, members-replaced m s h ms) (member_case k (replaced s t) (members_replaced s ms))
