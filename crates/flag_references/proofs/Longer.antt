-- What is written for the expression of a tree is no shorter than the tree: arguments get a list, and weights are written out.
use Rattle.std.proofs.Common.{◌≡◌, ◌≤◌, ℕ, suc, ◌+◌, ◌^◌, pos, negsuc, List, [], ◌∷◌, length, codes, Bool, true, false, cond, nat_lt, Option, Some, None, find, refl, sym, ap, ◌∙◌, arith}
use Rattle.std.specs.Str.{bytes_eq}
use Rattle.std.proofs.lemmas.Slice.Eq.{bytes_eq-Decides}
use Rattle.bucket_core.specs.Reading.{bucket_from as entry_of, bucket_with, weight_of}
use Rattle.flag_text.proofs.Bools.{left, right}
use Rattle.flag_text.specs.Shape as shape
use Rattle.flag_text.specs.Shape.{Shape, null, boolean, whole, other, text, object, Items, no_items, item, Members, no_members, member}
use Rattle.logic_ast.proofs.Formed.{first-left, first-right, chosen-left, chosen-right}
use Rattle.logic_ast.specs.Expression.{Expression, literal, computed_bucket}
use Rattle.logic_ast.specs.FirstFault.{argument_count, is_bucket, are_buckets, are_site_arguments, first, operator_fault, expression_fault, object_fault, expressions_fault, arguments_fault, site_fault, by_fault, buckets_fault, bucket_fault}
use Rattle.logic_ast.specs.Operator.{operator_name, operators, operator_of, takes, is_fractional}
use Rattle.logic_ast.specs.Reading.{expression_from, object_from, expressions_from, arguments_from, site_from, by_from, buckets_from, computed_from, operation_of, or_computed}
use Rattle.logic_ast.specs.Sites.{sites, sites_in_by, sites_in_bucket}
use Rattle.logic_ast.specs.Writing.{written, all_written, by_written, buckets_written, bucket_written}
use Rattle.logic_ast.specs.declared.fault.LogicFault.{LogicFault}
use Rattle.logic_ast.specs.declared.fault.LogicFault.TheVariants.{BadArguments}
use Rattle.logic_ast.specs.declared.operator.Operator.{Operator}
use Rattle.flag_references.specs.Least.{least, items_least}

-- ---- names of operations

find-holds_at : {A : Type 0} (f : A → Bool) (b : Bool) (x y : A) (o : Option A) → f x ≡ b → (o ≡ Some y → f y ≡ true) → cond b (Some x) o ≡ Some y → f y ≡ true
find-holds_at f true x y o is rest e = let same : x ≡ y = cc in ap f (sym same) ∙ is
find-holds_at f false x y o is rest e = rest e

find-holds : {A : Type 0} (f : A → Bool) (xs : List A) (y : A) → find f xs ≡ Some y → f y ≡ true
find-holds f [] y e = cc
find-holds f (x ∷ xs) y e = find-holds_at f (f x) x y (find f xs) refl (find-holds f xs y) e

-- an operator that is found has the name
named : (name : List ℕ) (o : Operator) → operator_of name ≡ Some o → operator_name o ≡ name
unfolding operator_of
named name o e = (bytes_eq-Decides (operator_name o) name).0 (find-holds (λ p. bytes_eq (operator_name p) name) operators o e)

fractional_length : (name : List ℕ) → is_fractional name ≡ true → length name ≡ 10
unfolding is_fractional
fractional_length name h = ap length (sym ((bytes_eq-Decides (codes "fractional") name).0 h))

-- ---- buckets

named-longer : (t : Shape) (e : Expression) → least t ≤ least (written e)
    → items_least (item t no_items) + 2 ≤ least (bucket_written (or_computed (bucket_with (Some 1) t) (computed_bucket e (literal (whole (pos 1))))))
named-longer null e h = omega (arith, h)
named-longer (boolean b) e h = omega (arith, h)
named-longer (whole n) e h = omega (arith, h)
named-longer other e h = omega (arith, h)
named-longer (text x) e h = omega arith
named-longer (shape.list ts) e h = omega (arith, h)
named-longer (object ms) e h = omega (arith, h)

whole-longer : (b : Bool) (n : ℕ) (x : List ℕ) (e f : Expression) → length x + 2 ≤ least (written e) → 1 ≤ least (written f)
    → ((length x + 2) + 1) + 2 ≤ least (bucket_written (or_computed (bucket_with (cond b (Some n) None) (text x)) (computed_bucket e f)))
whole-longer true n x e f h k = omega arith
whole-longer false n x e f h k = omega (arith, h, k)

text-longer : (x : List ℕ) (w : Shape) (e f : Expression) → length x + 2 ≤ least (written e) → least w ≤ least (written f)
    → items_least (item (text x) (item w no_items)) + 2 ≤ least (bucket_written (or_computed (bucket_with (weight_of w) (text x)) (computed_bucket e f)))
text-longer x null e f h k = omega (arith, h, k)
text-longer x (boolean b) e f h k = omega (arith, h, k)
text-longer x (whole (pos n)) e f h k = omega (arith, whole-longer (nat_lt n (2 ^ 31)) n x e f h k)
text-longer x (whole (negsuc n)) e f h k = omega (arith, h, k)
text-longer x other e f h k = omega (arith, h, k)
text-longer x (text y) e f h k = omega (arith, h, k)
text-longer x (shape.list ts) e f h k = omega (arith, h, k)
text-longer x (object ms) e f h k = omega (arith, h, k)

weighed-longer : (t w : Shape) (e f : Expression) → least t ≤ least (written e) → least w ≤ least (written f)
    → items_least (item t (item w no_items)) + 2 ≤ least (bucket_written (or_computed (bucket_with (weight_of w) t) (computed_bucket e f)))
weighed-longer null w e f h k = omega (arith, h, k)
weighed-longer (boolean b) w e f h k = omega (arith, h, k)
weighed-longer (whole n) w e f h k = omega (arith, h, k)
weighed-longer other w e f h k = omega (arith, h, k)
weighed-longer (text x) w e f h k = text-longer x w e f h k
weighed-longer (shape.list ts) w e f h k = omega (arith, h, k)
weighed-longer (object ms) w e f h k = omega (arith, h, k)

-- ---- operations

taken : (b : Bool) (g : Option LogicFault) → first (cond b None (Some BadArguments)) g ≡ None → g ≡ None
taken true g h = h
taken false g h = cc

applied-longer : (o : Option Operator) (k : ℕ) (name : List ℕ) (t : Shape) → operator_of name ≡ o → first (operator_fault o (argument_count t)) (arguments_fault t) ≡ None
    → (arguments_fault t ≡ None → least t ≤ items_least (all_written (arguments_from k t)) + 2) → least (object (member name t no_members)) ≤ least (written (operation_of o (arguments_from k t)))
applied-longer None k name t is h a = cc
applied-longer (Some o) k name t is h a = omega (arith, ap length (named name o is), a (taken (takes o (argument_count t)) (arguments_fault t) h))

operation-longer : (b : Bool) (k : ℕ) (name : List ℕ) (t : Shape) → is_fractional name ≡ b
    → cond b (site_fault t) (first (operator_fault (operator_of name) (argument_count t)) (arguments_fault t)) ≡ None
    → (site_fault t ≡ None → least t + 12 ≤ least (written (site_from k t)))
    → (arguments_fault t ≡ None → least t ≤ items_least (all_written (arguments_from k t)) + 2)
    → least (object (member name t no_members)) ≤ least (written (cond b (site_from k t) (operation_of (operator_of name) (arguments_from k t))))
operation-longer true k name t is h s a = omega (arith, fractional_length name is, s h)
operation-longer false k name t is h s a = applied-longer (operator_of name) k name t refl h a

-- ---- trees

mutual
  pub longer : (k : ℕ) (t : Shape) → expression_fault t ≡ None → least t ≤ least (written (expression_from k t))
  longer k null h = omega arith
  longer k (boolean b) h = omega arith
  longer k (whole n) h = omega arith
  longer k other h = omega arith
  longer k (text x) h = omega arith
  longer k (shape.list ts) h = omega (arith, all-longer k ts h)
  longer k (object ms) h = object-longer k ms h

  object-longer : (k : ℕ) (ms : Members) → object_fault ms ≡ None → least (object ms) ≤ least (written (object_from k ms))
  object-longer k no_members h = omega arith
  object-longer k (member name t no_members) h = operation-longer (is_fractional name) k name t refl h (site-longer k t) (arguments-longer k t)
  object-longer k (member name t (member l u ms)) h = omega arith

  all-longer : (k : ℕ) (ts : Items) → expressions_fault ts ≡ None → items_least ts ≤ items_least (all_written (expressions_from k ts))
  all-longer k no_items h = omega arith
  all-longer k (item t ts) h =
      let here = longer k t (first-left (expression_fault t) (expressions_fault ts) h) in
      let rest = all-longer (k + sites (expression_from k t)) ts (first-right (expression_fault t) (expressions_fault ts) h) in omega (arith, here, rest)

  arguments-longer : (k : ℕ) (t : Shape) → arguments_fault t ≡ None → least t ≤ items_least (all_written (arguments_from k t)) + 2
  arguments-longer k null h = omega arith
  arguments-longer k (boolean b) h = omega arith
  arguments-longer k (whole n) h = omega arith
  arguments-longer k other h = omega arith
  arguments-longer k (text x) h = omega arith
  arguments-longer k (shape.list ts) h = omega (arith, all-longer k ts h)
  arguments-longer k (object ms) h = omega (arith, object-longer k ms h)

  site-longer : (k : ℕ) (t : Shape) → site_fault t ≡ None → least t + 12 ≤ least (written (site_from k t))
  site-longer k null h = omega arith
  site-longer k (boolean b) h = omega arith
  site-longer k (whole n) h = omega arith
  site-longer k other h = omega arith
  site-longer k (text x) h = omega arith
  site-longer k (shape.list ts) h =
      let inner = chosen-right (are_site_arguments ts) (first (by_fault ts) (buckets_fault ts)) h in
      let good = chosen-left (are_site_arguments ts) (first (by_fault ts) (buckets_fault ts)) h in
      let rest = parts-longer (suc k) (suc k + sites_in_by (by_from (suc k) ts)) ts good (first-left (by_fault ts) (buckets_fault ts) inner) (first-right (by_fault ts) (buckets_fault ts) inner) in
      omega (arith, rest)
  site-longer k (object ms) h = omega (arith, object-longer (suc k) ms h)

  parts-longer : (k l : ℕ) (ts : Items) → are_site_arguments ts ≡ true → by_fault ts ≡ None → buckets_fault ts ≡ None
      → items_least ts ≤ items_least (by_written (by_from k ts) (buckets_written (buckets_from l ts)))
  parts-longer k l no_items g f h = omega arith
  parts-longer k l (item (shape.list ps) ts) g f h =
      let here = bucket-longer l ps (left (is_bucket (shape.list ps)) (are_buckets ts) g) (first-left (bucket_fault ps) (buckets_fault ts) h) in
      let next = l + sites_in_bucket (or_computed (entry_of ps) (computed_from l ps)) in
      let rest = buckets-longer next ts (right (is_bucket (shape.list ps)) (are_buckets ts) g) (first-right (bucket_fault ps) (buckets_fault ts) h) in omega (arith, here, rest)
  parts-longer k l (item null ts) g f h = omega (arith, buckets-longer l ts g h)
  parts-longer k l (item (boolean b) ts) g f h = omega (arith, buckets-longer l ts g h)
  parts-longer k l (item (whole n) ts) g f h = omega (arith, buckets-longer l ts g h)
  parts-longer k l (item other ts) g f h = omega (arith, buckets-longer l ts g h)
  parts-longer k l (item (text x) ts) g f h = omega (arith, buckets-longer l ts g h)
  parts-longer k l (item (object ms) ts) g f h = omega (arith, object-longer k ms f, buckets-longer l ts g h)

  buckets-longer : (k : ℕ) (ts : Items) → are_buckets ts ≡ true → buckets_fault ts ≡ None → items_least ts ≤ items_least (buckets_written (buckets_from k ts))
  buckets-longer k no_items g h = omega arith
  buckets-longer k (item (shape.list ps) ts) g h =
      let here = bucket-longer k ps (left (is_bucket (shape.list ps)) (are_buckets ts) g) (first-left (bucket_fault ps) (buckets_fault ts) h) in
      let next = k + sites_in_bucket (or_computed (entry_of ps) (computed_from k ps)) in
      let rest = buckets-longer next ts (right (is_bucket (shape.list ps)) (are_buckets ts) g) (first-right (bucket_fault ps) (buckets_fault ts) h) in omega (arith, here, rest)
  buckets-longer k (item null ts) g h = cc
  buckets-longer k (item (boolean b) ts) g h = cc
  buckets-longer k (item (whole n) ts) g h = cc
  buckets-longer k (item other ts) g h = cc
  buckets-longer k (item (text x) ts) g h = cc
  buckets-longer k (item (object ms) ts) g h = cc

  bucket-longer : (k : ℕ) (ps : Items) → is_bucket (shape.list ps) ≡ true → bucket_fault ps ≡ None → items_least ps + 2 ≤ least (bucket_written (or_computed (entry_of ps) (computed_from k ps)))
  bucket-longer k no_items g h = cc
  bucket-longer k (item name no_items) g h = named-longer name (expression_from k name) (longer k name h)
  bucket-longer k (item name (item weight no_items)) g h =
      let next = k + sites (expression_from k name) in
      weighed-longer name weight (expression_from k name) (expression_from next weight)
      (longer k name (first-left (expression_fault name) (expression_fault weight) h)) (longer next weight (first-right (expression_fault name) (expression_fault weight) h))
  bucket-longer k (item a (item b (item d ts))) g h = cc
