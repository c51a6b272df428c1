-- How large what is measured is.
use Rattle.std.proofs.Common.{◌≡◌, ℕ, zero, suc, ◌+◌, ◌<◌, List, [], ◌∷◌, length, drop, get_or, Bool, true, false, not, ◌&&◌, max, ℤ, pos, negsuc, Option, Some, None, option_map, refl, sym, ap, ◌∙◌, arith}
use Rattle.std.proofs.lemmas.List.{drop_all}
use Rattle.flag_text.specs.Shape.{Shape, null, boolean, whole, other, text, list, object, item, no_items}
use Rattle.flag_text.specs.View.{view, items_view}
use Rattle.flag_text.specs.declared.tree.Tree.{Tree}
use Rattle.logic_ast.specs.Operator.{operator_of, is_fractional}
use Rattle.flag_references.specs.Extent.{extent, parts_extent, extent_of_nothing, beside_extent, list_extent, operation_extent, object_of_extent, scalar_extent}
use Rattle.flag_references.specs.Inlining.{is_reference_name}
use Rattle.flag_references.specs.Measure.{plus, no_parts, measure, measured, parts_measured, list_measure, operation_measure, operation_reading, item_in_front, both, when, takes_count}
use Rattle.flag_references.specs.declared.extent.Extent.{Extent}
use Rattle.flag_references.specs.declared.measure.Measure.{Measure}
use Rattle.flag_references.specs.declared.measure.Parts.{Parts}

-- what has no parts is measured so whatever is known of references
pub scalar-extent : (refer : List ℕ → Option Measure) (t : Shape) (e : Extent) → scalar_extent t ≡ Some e → option_map extent (measured refer t) ≡ Some e
scalar-extent refer null e h = h
scalar-extent refer (boolean b) e h = h
scalar-extent refer (whole (pos n)) e h = h
scalar-extent refer (whole (negsuc n)) e h = h
scalar-extent refer other e h = h
scalar-extent refer (text s) e h = h
scalar-extent refer (list ts) e h = cc
scalar-extent refer (object ms) e h = cc

next_parts : (refer : List ℕ → Option Measure) (ts : List Tree) (i : ℕ) (d : Tree) → i < length ts
    → parts_measured refer (items_view (drop i ts)) ≡ both item_in_front (measured refer (view (get_or ts i d))) (parts_measured refer (items_view (drop (i + 1) ts)))
next_parts refer [] i d h = absurd (omega arith)
next_parts refer (t ∷ ts) zero d h = refl
next_parts refer (t ∷ ts) (suc i) d h =
    let z : suc (i + 1) ≡ suc i + 1 = omega arith in
    next_parts refer ts i d (omega arith) ∙ ap (λ k. both item_in_front (measured refer (view (get_or ts i d))) (parts_measured refer (items_view (drop k (t ∷ ts))))) z

plus_assoc : (a b c : ℕ) → plus a (plus b c) ≡ plus (plus a b) c
plus_assoc a b c = omega arith

max_assoc : (a b c : ℕ) → max a (max b c) ≡ max (max a b) c
max_assoc a b c = omega arith

and_assoc : (a b c : Bool) → (a && (b && c)) ≡ ((a && b) && c)
and_assoc true b c = refl
and_assoc false b c = refl

plus_before : (a b : ℕ) → plus 0 (plus a b) ≡ plus a b
plus_before a b = omega arith

plus_after : (a b : ℕ) → plus (plus a b) 0 ≡ plus a b
plus_after a b = omega arith

max_after : (a : ℕ) → max a 0 ≡ a
max_after a = omega arith

max_before : (a : ℕ) → max 0 a ≡ a
max_before a = omega arith

and_after : (a : Bool) → (a && true) ≡ a
and_after true = refl
and_after false = refl

beside_assoc : (a b c : Extent) → beside_extent a (beside_extent b c) ≡ beside_extent (beside_extent a b) c
beside_assoc a b c = rw (
  plus_assoc a.full_nodes b.full_nodes c.full_nodes,
  max_assoc a.full_levels b.full_levels c.full_levels,
  plus_assoc a.nodes b.nodes c.nodes,
  max_assoc a.levels b.levels c.levels,
  plus_assoc a.bytes b.bytes c.bytes,
  and_assoc a.is_full_sound b.is_full_sound c.is_full_sound,
  and_assoc a.is_sound b.is_sound c.is_sound,
) refl

beside_before : (a b : Extent) → beside_extent extent_of_nothing (beside_extent a b) ≡ beside_extent a b
beside_before a b = rw (
  plus_before a.full_nodes b.full_nodes,
  max_before (max a.full_levels b.full_levels),
  plus_before a.nodes b.nodes,
  max_before (max a.levels b.levels),
  plus_before a.bytes b.bytes,
) refl

beside_after : (a b : Extent) → beside_extent (beside_extent a b) extent_of_nothing ≡ beside_extent a b
beside_after a b = rw (
  plus_after a.full_nodes b.full_nodes,
  max_after (max a.full_levels b.full_levels),
  plus_after a.nodes b.nodes,
  max_after (max a.levels b.levels),
  plus_after a.bytes b.bytes,
  and_after (a.is_full_sound && b.is_full_sound),
  and_after (a.is_sound && b.is_sound),
) refl

-- with what was added up of the first items, and that of the others, those of all; it counts no further than sums do
pub record Adds (refer : List ℕ → Option Measure) (ts : List Tree) (i : ℕ) (e : Extent) : Type 0 where
  pub whole : option_map parts_extent (parts_measured refer (items_view ts)) ≡ option_map (beside_extent e) (option_map parts_extent (parts_measured refer (items_view (drop i ts))))
  pub capped : beside_extent e extent_of_nothing ≡ e

before_any : (o : Option Measure) (q : Option Parts) → option_map parts_extent (both item_in_front o q) ≡ option_map (beside_extent extent_of_nothing) (option_map parts_extent (both item_in_front o q))
before_any None q = refl
before_any (Some m) None = refl
before_any (Some m) (Some p) = ap Some (sym (beside_before (extent m) (parts_extent p)))

whole_first : (refer : List ℕ → Option Measure) (ts : List Tree)
    → option_map parts_extent (parts_measured refer (items_view ts)) ≡ option_map (beside_extent extent_of_nothing) (option_map parts_extent (parts_measured refer (items_view ts)))
whole_first refer [] = refl
whole_first refer (t ∷ ts) = before_any (measured refer (view t)) (parts_measured refer (items_view ts))

pub adds-first : (refer : List ℕ → Option Measure) (ts : List Tree) → Adds refer ts 0 extent_of_nothing
adds-first refer ts = record { whole = whole_first refer ts; capped = refl }

one_more : (e a : Extent) (o : Option Measure) (q : Option Parts) → option_map extent o ≡ Some a
    → option_map (beside_extent e) (option_map parts_extent (both item_in_front o q)) ≡ option_map (beside_extent (beside_extent e a)) (option_map parts_extent q)
one_more e a None q h = cc
one_more e a (Some m) None h = refl
one_more e a (Some m) (Some p) h =
    let k : extent m ≡ a = cc in ap Some (beside_assoc e (extent m) (parts_extent p)) ∙ ap (λ x. Some (beside_extent (beside_extent e x) (parts_extent p))) k

-- with one item more
pub adds-next : (refer : List ℕ → Option Measure) (ts : List Tree) (i : ℕ) (d : Tree) (e a : Extent) → i < length ts
    → option_map extent (measured refer (view (get_or ts i d))) ≡ Some a → Adds refer ts i e → Adds refer ts (i + 1) (beside_extent e a)
adds-next refer ts i d e a h m s = record {
  whole = s.whole ∙ (ap (λ q. option_map (beside_extent e) (option_map parts_extent q)) (next_parts refer ts i d h)
      ∙ one_more e a (measured refer (view (get_or ts i d))) (parts_measured refer (items_view (drop (i + 1) ts))) m);
  capped = beside_after e a;
}

pub adds-all : (refer : List ℕ → Option Measure) (ts : List Tree) (i : ℕ) (e : Extent) → i ≡ length ts → Adds refer ts i e
    → option_map parts_extent (parts_measured refer (items_view ts)) ≡ Some e
adds-all refer ts i e z s =
    let none : drop i ts ≡ [] = drop_all i ts (omega (arith, z)) in
    s.whole ∙ (ap (λ us. option_map (beside_extent e) (option_map parts_extent (parts_measured refer (items_view us)))) none ∙ ap Some s.capped)

none_in_front : (o : Option Measure) → both item_in_front o None ≡ None
none_in_front None = refl
none_in_front (Some m) = refl

nothing : (o : Option Measure) → option_map extent o ≡ None → o ≡ None
nothing None e = refl
nothing (Some m) e = cc

no_parts_of : (refer : List ℕ → Option Measure) (ts : List Tree) (i : ℕ) (d : Tree) → i < length ts → measured refer (view (get_or ts i d)) ≡ None → parts_measured refer (items_view ts) ≡ None
no_parts_of refer [] i d h e = absurd (omega arith)
no_parts_of refer (t ∷ ts) zero d h e = ap (λ m. both item_in_front m (parts_measured refer (items_view ts))) e
no_parts_of refer (t ∷ ts) (suc i) d h e =
    ap (both item_in_front (measured refer (view t))) (no_parts_of refer ts i d (omega arith) e) ∙ none_in_front (measured refer (view t))

-- where one item has no measure, the list has none
pub items-without : (refer : List ℕ → Option Measure) (ts : List Tree) (i : ℕ) (d : Tree) → i < length ts → option_map extent (measured refer (view (get_or ts i d))) ≡ None
    → option_map parts_extent (parts_measured refer (items_view ts)) ≡ None
items-without refer ts i d h e = ap (option_map parts_extent) (no_parts_of refer ts i d h (nothing (measured refer (view (get_or ts i d))) e))

pub list-extent : (n : ℕ) (p : Option Parts) → option_map extent (option_map (list_measure n) p) ≡ option_map list_extent (option_map parts_extent p)
list-extent n None = refl
list-extent n (Some p) = refl

not_text : (b x : Bool) → (not (b && false) && x) ≡ x
not_text true x = refl
not_text false x = refl

reads_arguments : (k : List ℕ) (m : Measure) → is_fractional k ≡ false → operation_reading k m ≡ when (takes_count (operator_of k) m.argument_count) m.arguments
reads_arguments k m h = rw h refl

one_operation : (k : List ℕ) (n : ℕ) (p : Parts) → is_fractional k ≡ false → extent (operation_measure k (list_measure n p)) ≡ operation_extent k n (parts_extent p)
one_operation k n p h = rw (reads_arguments k (list_measure n p) h, not_text (is_reference_name k) p.full.is_sound) refl

-- of an operation that is no `fractional`, round a list
pub operation-extent : (k : List ℕ) (n : ℕ) (p : Option Parts) → is_fractional k ≡ false
    → option_map extent (option_map (operation_measure k) (option_map (list_measure n) p)) ≡ option_map (operation_extent k n) (option_map parts_extent p)
operation-extent k n None h = refl
operation-extent k n (Some p) h = ap Some (one_operation k n p h)

-- of an object that is no reference the extent is all
pub operation-object : (k : List ℕ) (o : Option Measure) → option_map object_of_extent (option_map extent (option_map (operation_measure k) o)) ≡ option_map (operation_measure k) o
operation-object k None = refl
operation-object k (Some m) = refl

-- a number is measured so whatever is known of references
measured-whole : (refer : List ℕ → Option Measure) (z : ℤ) → measured refer (whole z) ≡ Some (measure (whole z))
measured-whole refer (pos n) = refl
measured-whole refer (negsuc n) = refl

-- a list of a name and a weight
pub measured-pair : (refer : List ℕ → Option Measure) (s : List ℕ) (z : ℤ)
    → measured refer (list (item (text s) (item (whole z) no_items))) ≡ Some (list_measure 2 (item_in_front (measure (text s)) (item_in_front (measure (whole z)) no_parts)))
measured-pair refer s z = rw (measured-whole refer z) refl
