-- What is written for what was read is as large as the tree that it was read from, and has no more sites than nodes.
use Rattle.std.proofs.Common.{◌≡◌, ℕ, suc, ◌+◌, ◌≤◌, ◌^◌, pos, List, Bool, true, false, nat_lt, max, cond, Option, Some, None, refl, ap, ap₂, ◌∙◌, arith}
use Rattle.std.specs.Option.{IfSome}
use Rattle.bucket_core.specs.Reading.{bucket_from as entry_of, bucket_with, weight_of}
use Rattle.flag_text.specs.Shape as shape
use Rattle.flag_text.specs.Shape.{Shape, null, boolean, whole, other, text, object, Items, no_items, item, Members, no_members, member}
use Rattle.logic_ast.specs.Expression.{Expression, literal, fractional, Expressions, By, by, Buckets, no_buckets, Bucket, computed_bucket}
use Rattle.logic_ast.specs.FirstFault.{is_list_tree, argument_count, are_buckets, are_site_arguments, first, operator_fault, expression_fault, object_fault, expressions_fault, arguments_fault, site_fault, by_fault, buckets_fault}
use Rattle.logic_ast.specs.Operator.{operator_of, is_fractional}
use Rattle.logic_ast.specs.Reading.{expression_from, object_from, expressions_from, arguments_from, site_from, by_from, buckets_from, bucket_from, computed_from, operation_of, or_computed}
use Rattle.logic_ast.specs.Sites.{sites, sites_in, sites_in_by, sites_in_buckets, sites_in_bucket}
use Rattle.logic_ast.specs.Size.{Size, nothing, scalar, beside, around, unless_literal, expression_size, object_size, expressions_size, arguments_size, site_size, buckets_size, bucket_parts_size, bucket_size}
use Rattle.logic_ast.specs.Writing.{written, all_written, by_written, buckets_written, bucket_written}
use Rattle.logic_ast.specs.declared.fault.LogicFault.{LogicFault}
use Rattle.logic_ast.specs.declared.operator.Operator.{Operator}
use Rattle.logic_ast.proofs.Formed.{first-left, first-right, chosen-left, chosen-right, weight-small, with-small, no-literals}
use Rattle.logic_ast.proofs.Operators.{is_fractional-operator_name, is_fractional-fractional}
use Rattle.logic_ast.proofs.Written.{entry_of-computed}

-- ---- no more sites than nodes

pick-few : (b : Bool) (s a : Expression) (x y : Size) → sites s ≤ suc (suc x.nodes) → sites a ≤ suc (suc y.nodes) → sites (cond b s a) ≤ suc (suc (cond b x y).nodes)
pick-few true s a x y p q = p
pick-few false s a x y p q = q

operation-few : (o : Option Operator) (es : Expressions) (n : ℕ) → sites_in es ≤ n → sites (operation_of o es) ≤ suc (suc n)
operation-few None es n h = omega arith
operation-few (Some o) es n h = omega arith

bucket-few : (o : Option (List ℕ × ℕ)) (b : Bucket) (s : Size) → sites_in_bucket b ≤ s.nodes → sites_in_bucket (or_computed o b) ≤ (unless_literal o s).nodes
bucket-few None b s h = omega arith
bucket-few (Some p) b s h = omega arith

mutual
  pub sites-few : (k : ℕ) (t : Shape) → sites (expression_from k t) ≤ (expression_size t).nodes
  sites-few k null = omega arith
  sites-few k (boolean b) = omega arith
  sites-few k (whole n) = omega arith
  sites-few k other = omega arith
  sites-few k (text s) = omega arith
  sites-few k (shape.list ts) = omega (arith, sites_in-few k ts)
  sites-few k (object ms) = object-few k ms

  object-few : (k : ℕ) (ms : Members) → sites (object_from k ms) ≤ (object_size ms).nodes
  object-few k no_members = omega arith
  object-few k (member name t no_members) =
      pick-few (is_fractional name) _ _ (site_size t) (arguments_size t) (site-few k t) (operation-few (operator_of name) (arguments_from k t) (arguments_size t).nodes (arguments-few k t))
  object-few k (member name t (member l u ms)) = omega arith

  sites_in-few : (k : ℕ) (ts : Items) → sites_in (expressions_from k ts) ≤ (expressions_size ts).nodes
  sites_in-few k no_items = omega arith
  sites_in-few k (item t ts) = omega (arith, sites-few k t, sites_in-few (k + sites (expression_from k t)) ts)

  arguments-few : (k : ℕ) (t : Shape) → sites_in (arguments_from k t) ≤ (arguments_size t).nodes
  arguments-few k null = omega arith
  arguments-few k (boolean b) = omega arith
  arguments-few k (whole n) = omega arith
  arguments-few k other = omega arith
  arguments-few k (text s) = omega arith
  arguments-few k (shape.list ts) = sites_in-few k ts
  arguments-few k (object ms) = omega (arith, object-few k ms)

  site-few : (k : ℕ) (t : Shape) → sites (site_from k t) ≤ suc (suc (site_size t).nodes)
  site-few k null = omega arith
  site-few k (boolean b) = omega arith
  site-few k (whole n) = omega arith
  site-few k other = omega arith
  site-few k (text s) = omega arith
  site-few k (shape.list ts) = omega (arith, places-few (suc k) (suc k + sites_in_by (by_from (suc k) ts)) ts)
  site-few k (object ms) = omega (arith, object-few (suc k) ms)

  places-few : (k j : ℕ) (ts : Items) → sites_in_by (by_from k ts) + sites_in_buckets (buckets_from j ts) ≤ (buckets_size ts).nodes
  places-few k j no_items = omega arith
  places-few k j (item null ts) = omega (arith, buckets-few j ts)
  places-few k j (item (boolean b) ts) = omega (arith, buckets-few j ts)
  places-few k j (item (whole n) ts) = omega (arith, buckets-few j ts)
  places-few k j (item other ts) = omega (arith, buckets-few j ts)
  places-few k j (item (text s) ts) = omega (arith, buckets-few j ts)
  places-few k j (item (shape.list ps) ts) =
      omega (arith, bucket-few (entry_of ps) (computed_from j ps) (bucket_parts_size ps) (computed-few j ps), buckets-few (j + sites_in_bucket (bucket_from j ps)) ts)
  places-few k j (item (object ms) ts) = omega (arith, object-few k ms, buckets-few j ts)

  buckets-few : (k : ℕ) (ts : Items) → sites_in_buckets (buckets_from k ts) ≤ (buckets_size ts).nodes
  buckets-few k no_items = omega arith
  buckets-few k (item null ts) = omega (arith, buckets-few k ts)
  buckets-few k (item (boolean b) ts) = omega (arith, buckets-few k ts)
  buckets-few k (item (whole n) ts) = omega (arith, buckets-few k ts)
  buckets-few k (item other ts) = omega (arith, buckets-few k ts)
  buckets-few k (item (text s) ts) = omega (arith, buckets-few k ts)
  buckets-few k (item (shape.list ps) ts) =
      omega (arith, bucket-few (entry_of ps) (computed_from k ps) (bucket_parts_size ps) (computed-few k ps), buckets-few (k + sites_in_bucket (bucket_from k ps)) ts)
  buckets-few k (item (object ms) ts) = omega (arith, buckets-few k ts)

  computed-few : (k : ℕ) (ps : Items) → sites_in_bucket (computed_from k ps) ≤ (bucket_parts_size ps).nodes
  computed-few k no_items = omega arith
  computed-few k (item name no_items) = omega (arith, sites-few k name)
  computed-few k (item name (item weight ps)) = omega (arith, sites-few k name, sites-few (k + sites (expression_from k name)) weight)

-- ---- as large as the tree

pub beside-nothing : (s : Size) → beside s nothing ≡ s
beside-nothing s =
    let n : s.nodes + 0 ≡ s.nodes = omega arith in
    let l : max s.levels 0 ≡ s.levels = omega arith in
    ap₂ (λ x y. let made : Size = record { nodes = x; levels = y } in made) n l

pub buckets_size-other : (t : Shape) (ts : Items) → is_list_tree t ≡ false → buckets_size (item t ts) ≡ beside (expression_size t) (buckets_size ts)
buckets_size-other null ts h = refl
buckets_size-other (boolean b) ts h = refl
buckets_size-other (whole n) ts h = refl
buckets_size-other other ts h = refl
buckets_size-other (text s) ts h = refl
buckets_size-other (shape.list ps) ts h = cc
buckets_size-other (object ms) ts h = refl

pick-no_list : (b : Bool) (s a : Expression) → is_list_tree (written s) ≡ false → is_list_tree (written a) ≡ false → is_list_tree (written (cond b s a)) ≡ false
pick-no_list true s a p q = p
pick-no_list false s a p q = q

site-no_list : (k : ℕ) (t : Shape) → is_list_tree (written (site_from k t)) ≡ false
site-no_list k null = refl
site-no_list k (boolean b) = refl
site-no_list k (whole n) = refl
site-no_list k other = refl
site-no_list k (text s) = refl
site-no_list k (shape.list ts) = refl
site-no_list k (object ms) = refl

operation-no_list : (o : Option Operator) (es : Expressions) → is_list_tree (written (operation_of o es)) ≡ false
operation-no_list None es = refl
operation-no_list (Some o) es = refl

object-no_list : (k : ℕ) (ms : Members) → is_list_tree (written (object_from k ms)) ≡ false
object-no_list k no_members = refl
object-no_list k (member name t no_members) = pick-no_list (is_fractional name) _ _ (site-no_list k t) (operation-no_list (operator_of name) _)
object-no_list k (member name t (member l u ms)) = refl

pick-size : (b : Bool) (f g : Option LogicFault) (s a : Expression) (x y : Size) → cond b f g ≡ None → (f ≡ None → expression_size (written s) ≡ around (around x))
    → (g ≡ None → expression_size (written a) ≡ around (around y)) → expression_size (written (cond b s a)) ≡ around (around (cond b x y))
pick-size true f g s a x y h p q = p h
pick-size false f g s a x y h p q = q h

operation-size : (o : Option Operator) (n : ℕ) (es : Expressions) (f : Option LogicFault) (s : Size) → first (operator_fault o n) f ≡ None → expressions_size (all_written es) ≡ s
    → expression_size (written (operation_of o es)) ≡ around (around s)
operation-size None n es f s h e = cc
operation-size (Some o) n es f s h e = rw (is_fractional-operator_name o) (ap (λ x. around (around x)) e)

pub fractional-size : (n : ℕ) (b : By) (bs : Buckets) (s : Size) → buckets_size (by_written b (buckets_written bs)) ≡ s → expression_size (written (fractional n b bs)) ≡ around (around s)
fractional-size n b bs s e = rw is_fractional-fractional (ap (λ x. around (around x)) e)

bucket-at-size : (o : Option (List ℕ × ℕ)) (a b : Expression) (s : Size) (rest : Items) (x : Size) → IfSome o (λ p. nat_lt p.1 (2 ^ 31) ≡ true) → buckets_size rest ≡ x
    → (o ≡ None → (bucket_with (weight_of (written b)) (written a) ≡ None) × (beside (expression_size (written a)) (beside (expression_size (written b)) nothing) ≡ s))
    → buckets_size (item (bucket_written (or_computed o (computed_bucket a b))) rest) ≡ beside (unless_literal o s) x
bucket-at-size None a b s rest x small h q = rw ((q refl).0) (ap₂ beside (ap around (q refl).1) h)
bucket-at-size (Some p) a b s rest x small h q = rw small (ap (beside nothing) h)

name-size : (k : ℕ) (name : Shape) → expression_size (written (expression_from k name)) ≡ expression_size name → (rest : Items) (x : Size) → buckets_size rest ≡ x
    → buckets_size (item (bucket_written (bucket_from k (item name no_items))) rest) ≡ beside (bucket_size (item name no_items)) x
name-size k name h rest x e =
    bucket-at-size (entry_of (item name no_items)) (expression_from k name) (literal (whole (pos 1))) _ rest x (with-small (Some 1) name refl) e
    (λ none. (entry_of-computed (expression_from k name) (literal (whole (pos 1))) (no-literals k k name (whole (pos 1)) none), ap₂ beside h (beside-nothing scalar)))

pair-size : (k j : ℕ) (name weight : Shape) → expression_size (written (expression_from k name)) ≡ expression_size name → expression_size (written (expression_from j weight)) ≡ expression_size weight
    → (rest : Items) (x : Size) → buckets_size rest ≡ x
    → buckets_size (item (bucket_written (or_computed (entry_of (item name (item weight no_items))) (computed_bucket (expression_from k name) (expression_from j weight)))) rest)
    ≡ beside (bucket_size (item name (item weight no_items))) x
pair-size k j name weight h g rest x e =
    bucket-at-size (entry_of (item name (item weight no_items))) (expression_from k name) (expression_from j weight) _ rest x (with-small (weight_of weight) name (weight-small weight)) e
    (λ none. (
      entry_of-computed (expression_from k name) (expression_from j weight) (no-literals k j name weight none),
      ap₂ beside h (ap (λ y. beside y nothing) g),
    ))

mutual
  pub size-from : (k : ℕ) (t : Shape) → expression_fault t ≡ None → expression_size (written (expression_from k t)) ≡ expression_size t
  size-from k null h = refl
  size-from k (boolean b) h = refl
  size-from k (whole n) h = refl
  size-from k other h = refl
  size-from k (text s) h = refl
  size-from k (shape.list ts) h = ap around (sizes-from k ts h)
  size-from k (object ms) h = object-size k ms h

  object-size : (k : ℕ) (ms : Members) → object_fault ms ≡ None → expression_size (written (object_from k ms)) ≡ object_size ms
  object-size k no_members h = refl
  object-size k (member name t no_members) h =
      pick-size (is_fractional name) _ _ _ _ (site_size t) (arguments_size t) h (λ x. site-size k t x)
      (λ x. operation-size (operator_of name) (argument_count t) (arguments_from k t) (arguments_fault t) (arguments_size t) x (arguments-size k t (first-right _ _ x)))
  object-size k (member name t (member l u ms)) h = refl

  sizes-from : (k : ℕ) (ts : Items) → expressions_fault ts ≡ None → expressions_size (all_written (expressions_from k ts)) ≡ expressions_size ts
  sizes-from k no_items h = refl
  sizes-from k (item t ts) h = ap₂ beside (size-from k t (first-left _ _ h)) (sizes-from (k + sites (expression_from k t)) ts (first-right (expression_fault t) _ h))

  arguments-size : (k : ℕ) (t : Shape) → arguments_fault t ≡ None → expressions_size (all_written (arguments_from k t)) ≡ arguments_size t
  arguments-size k null h = beside-nothing scalar
  arguments-size k (boolean b) h = beside-nothing scalar
  arguments-size k (whole n) h = beside-nothing scalar
  arguments-size k other h = beside-nothing scalar
  arguments-size k (text s) h = beside-nothing scalar
  arguments-size k (shape.list ts) h = sizes-from k ts h
  arguments-size k (object ms) h = beside-nothing _ ∙ object-size k ms h

  site-size : (k : ℕ) (t : Shape) → site_fault t ≡ None → expression_size (written (site_from k t)) ≡ around (around (site_size t))
  site-size k null h = fractional-size k (by (literal null)) no_buckets scalar (beside-nothing scalar)
  site-size k (boolean b) h = fractional-size k (by (literal (boolean b))) no_buckets scalar (beside-nothing scalar)
  site-size k (whole n) h = fractional-size k (by (literal (whole n))) no_buckets scalar (beside-nothing scalar)
  site-size k other h = fractional-size k (by (literal other)) no_buckets scalar (beside-nothing scalar)
  site-size k (text s) h = fractional-size k (by (literal (text s))) no_buckets scalar (beside-nothing scalar)
  site-size k (shape.list ts) h =
      let inside = chosen-right (are_site_arguments ts) _ h in
      fractional-size k (by_from (suc k) ts) (buckets_from (suc k + sites_in_by (by_from (suc k) ts)) ts) (buckets_size ts)
      (places-size (suc k) (suc k + sites_in_by (by_from (suc k) ts)) ts (chosen-left (are_site_arguments ts) _ h) (first-left _ _ inside) (first-right (by_fault ts) _ inside))
  site-size k (object ms) h =
      fractional-size k (by (object_from (suc k) ms)) no_buckets (object_size ms)
      (buckets_size-other (written (object_from (suc k) ms)) no_items (object-no_list (suc k) ms) ∙ (beside-nothing _ ∙ object-size (suc k) ms h))

  places-size : (k j : ℕ) (ts : Items) → are_site_arguments ts ≡ true → by_fault ts ≡ None → buckets_fault ts ≡ None
      → buckets_size (by_written (by_from k ts) (buckets_written (buckets_from j ts))) ≡ buckets_size ts
  places-size k j no_items g f h = refl
  places-size k j (item null ts) g f h = ap (beside scalar) (buckets-size j ts g h)
  places-size k j (item (boolean b) ts) g f h = ap (beside scalar) (buckets-size j ts g h)
  places-size k j (item (whole n) ts) g f h = ap (beside scalar) (buckets-size j ts g h)
  places-size k j (item other ts) g f h = ap (beside scalar) (buckets-size j ts g h)
  places-size k j (item (text s) ts) g f h = ap (beside scalar) (buckets-size j ts g h)
  places-size k j (item (shape.list no_items) ts) g f h = cc
  places-size k j (item (shape.list (item name no_items)) ts) g f h =
      let rest = buckets-size (j + sites_in_bucket (bucket_from j (item name no_items))) ts g (first-right (expression_fault name) _ h) in
      name-size j name (size-from j name (first-left _ _ h)) _ _ rest
  places-size k j (item (shape.list (item name (item weight no_items))) ts) g f h =
      let rest = buckets-size (j + sites_in_bucket (bucket_from j (item name (item weight no_items)))) ts g (first-right (first (expression_fault name) (expression_fault weight)) _ h) in
      pair-size j (j + sites (expression_from j name)) name weight (size-from j name (first-left _ _ (first-left _ _ h)))
      (size-from (j + sites (expression_from j name)) weight (first-right (expression_fault name) _ (first-left _ _ h))) _ _ rest
  places-size k j (item (shape.list (item a (item b (item d ps)))) ts) g f h = cc
  places-size k j (item (object ms) ts) g f h =
      buckets_size-other (written (object_from k ms)) _ (object-no_list k ms) ∙ ap₂ beside (object-size k ms f) (buckets-size j ts g h)

  buckets-size : (k : ℕ) (ts : Items) → are_buckets ts ≡ true → buckets_fault ts ≡ None → buckets_size (buckets_written (buckets_from k ts)) ≡ buckets_size ts
  buckets-size k no_items g h = refl
  buckets-size k (item null ts) g h = cc
  buckets-size k (item (boolean b) ts) g h = cc
  buckets-size k (item (whole n) ts) g h = cc
  buckets-size k (item other ts) g h = cc
  buckets-size k (item (text s) ts) g h = cc
  buckets-size k (item (shape.list no_items) ts) g h = cc
  buckets-size k (item (shape.list (item name no_items)) ts) g h =
      let rest = buckets-size (k + sites_in_bucket (bucket_from k (item name no_items))) ts g (first-right (expression_fault name) _ h) in
      name-size k name (size-from k name (first-left _ _ h)) _ _ rest
  buckets-size k (item (shape.list (item name (item weight no_items))) ts) g h =
      let rest = buckets-size (k + sites_in_bucket (bucket_from k (item name (item weight no_items)))) ts g (first-right (first (expression_fault name) (expression_fault weight)) _ h) in
      pair-size k (k + sites (expression_from k name)) name weight (size-from k name (first-left _ _ (first-left _ _ h)))
      (size-from (k + sites (expression_from k name)) weight (first-right (expression_fault name) _ (first-left _ _ h))) _ _ rest
  buckets-size k (item (shape.list (item a (item b (item d ps)))) ts) g h = cc
  buckets-size k (item (object ms) ts) g h = cc
