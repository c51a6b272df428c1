-- What is written for the expression of a tree without references has none.
use Rattle.std.proofs.Common.{◌≡◌, ℕ, suc, ◌+◌, List, codes, pos, Bool, true, false, ◌||◌, cond, Option, Some, None, is_some, refl}
use Rattle.bucket_core.specs.Reading.{bucket_from as entry_of}
use Rattle.flag_text.specs.Shape as shape
use Rattle.flag_text.specs.Shape.{Shape, null, boolean, whole, other, text, object, Items, no_items, item, Members, no_members, member}
use Rattle.flag_text.proofs.Bools.{or_left, or_right}
use Rattle.logic_ast.specs.Expression.{Expression, Expressions, Bucket}
use Rattle.logic_ast.specs.Operator.{operator_of, operator_name, is_fractional}
use Rattle.logic_ast.specs.Reading.{expression_from, object_from, expressions_from, arguments_from, site_from, by_from, buckets_from, computed_from, operation_of, or_computed}
use Rattle.logic_ast.specs.Sites.{sites, sites_in_by, sites_in_bucket}
use Rattle.logic_ast.specs.Writing.{written, all_written, by_written, buckets_written, bucket_written}
use Rattle.logic_ast.specs.declared.operator.Operator.{Operator}
use Rattle.flag_references.specs.Inlining.{name_in, has_reference, items_have_reference}
use Rattle.flag_defs.proofs.Unreferred.{neither, outside}

operator_clear : (o : Option Operator) (es : Expressions) → items_have_reference (all_written es) ≡ false → has_reference (written (operation_of o es)) ≡ false
operator_clear None es h = refl
operator_clear (Some o) es h = outside (operator_name o) (all_written es) h

operation_clear : (b : Bool) (o : Option Operator) (e : Expression) (es : Expressions) → has_reference (written e) ≡ false → items_have_reference (all_written es) ≡ false → has_reference (written (cond b e (operation_of o es))) ≡ false
operation_clear true o e es h g = h
operation_clear false o e es h g = operator_clear o es g

or_clear : (o : Option (List ℕ × ℕ)) (b : Bucket) → has_reference (bucket_written b) ≡ false → has_reference (bucket_written (or_computed o b)) ≡ false
or_clear None b h = h
or_clear (Some p) b h = refl

pair_clear : (name weight : Shape) → has_reference name ≡ false → has_reference weight ≡ false → items_have_reference (item name (item weight no_items)) ≡ false
pair_clear name weight p q = neither (has_reference name) (has_reference weight || false) p (neither (has_reference weight) false q refl)

mutual
  pub clear : (k : ℕ) (t : Shape) → has_reference t ≡ false → has_reference (written (expression_from k t)) ≡ false
  clear k null h = refl
  clear k (boolean b) h = refl
  clear k (whole n) h = refl
  clear k other h = refl
  clear k (text s) h = refl
  clear k (shape.list ts) h = all_clear k ts h
  clear k (object ms) h = object_clear k ms h

  object_clear : (k : ℕ) (ms : Members) → has_reference (object ms) ≡ false → has_reference (written (object_from k ms)) ≡ false
  object_clear k no_members h = refl
  object_clear k (member name t no_members) h =
      let inner = or_left (has_reference t) false (or_right (is_some (name_in name t)) (has_reference t || false) h) in
      operation_clear (is_fractional name) (operator_of name) (site_from k t) (arguments_from k t) (site_clear k t inner) (arguments_clear k t inner)
  object_clear k (member name t (member l u ms)) h = h

  all_clear : (k : ℕ) (ts : Items) → items_have_reference ts ≡ false → items_have_reference (all_written (expressions_from k ts)) ≡ false
  all_clear k no_items h = refl
  all_clear k (item t ts) h =
      neither (has_reference (written (expression_from k t))) (items_have_reference (all_written (expressions_from (k + sites (expression_from k t)) ts)))
      (clear k t (or_left (has_reference t) (items_have_reference ts) h)) (all_clear (k + sites (expression_from k t)) ts (or_right (has_reference t) (items_have_reference ts) h))

  arguments_clear : (k : ℕ) (t : Shape) → has_reference t ≡ false → items_have_reference (all_written (arguments_from k t)) ≡ false
  arguments_clear k null h = refl
  arguments_clear k (boolean b) h = refl
  arguments_clear k (whole n) h = refl
  arguments_clear k other h = refl
  arguments_clear k (text s) h = refl
  arguments_clear k (shape.list ts) h = all_clear k ts h
  arguments_clear k (object ms) h = neither (has_reference (written (object_from k ms))) false (object_clear k ms h) refl

  site_clear : (k : ℕ) (t : Shape) → has_reference t ≡ false → has_reference (written (site_from k t)) ≡ false
  site_clear k null h = refl
  site_clear k (boolean b) h = refl
  site_clear k (whole n) h = refl
  site_clear k other h = refl
  site_clear k (text s) h = refl
  site_clear k (shape.list ts) h =
      let bs = buckets_written (buckets_from (suc k + sites_in_by (by_from (suc k) ts)) ts) in
      outside (codes "fractional") (by_written (by_from (suc k) ts) bs) (by_clear (suc k) ts bs h (buckets_clear (suc k + sites_in_by (by_from (suc k) ts)) ts h))
  site_clear k (object ms) h =
      outside (codes "fractional") (item (written (object_from (suc k) ms)) no_items) (neither (has_reference (written (object_from (suc k) ms))) false (object_clear (suc k) ms h) refl)

  by_clear : (k : ℕ) (ts bs : Items) → items_have_reference ts ≡ false → items_have_reference bs ≡ false → items_have_reference (by_written (by_from k ts) bs) ≡ false
  by_clear k no_items bs h g = g
  by_clear k (item null ts) bs h g = g
  by_clear k (item (boolean b) ts) bs h g = g
  by_clear k (item (whole n) ts) bs h g = g
  by_clear k (item other ts) bs h g = g
  by_clear k (item (text s) ts) bs h g = g
  by_clear k (item (shape.list ps) ts) bs h g = g
  by_clear k (item (object ms) ts) bs h g =
      neither (has_reference (written (object_from k ms))) (items_have_reference bs) (object_clear k ms (or_left (has_reference (object ms)) (items_have_reference ts) h)) g

  buckets_clear : (k : ℕ) (ts : Items) → items_have_reference ts ≡ false → items_have_reference (buckets_written (buckets_from k ts)) ≡ false
  buckets_clear k no_items h = refl
  buckets_clear k (item null ts) h = buckets_clear k ts h
  buckets_clear k (item (boolean b) ts) h = buckets_clear k ts h
  buckets_clear k (item (whole n) ts) h = buckets_clear k ts h
  buckets_clear k (item other ts) h = buckets_clear k ts h
  buckets_clear k (item (text s) ts) h = buckets_clear k ts h
  buckets_clear k (item (object ms) ts) h = buckets_clear k ts (or_right (has_reference (object ms)) (items_have_reference ts) h)
  buckets_clear k (item (shape.list ps) ts) h =
      let b = or_computed (entry_of ps) (computed_from k ps) in
      neither (has_reference (bucket_written b)) (items_have_reference (buckets_written (buckets_from (k + sites_in_bucket b) ts)))
      (or_clear (entry_of ps) (computed_from k ps) (computed_clear k ps (or_left (items_have_reference ps) (items_have_reference ts) h)))
      (buckets_clear (k + sites_in_bucket b) ts (or_right (items_have_reference ps) (items_have_reference ts) h))

  computed_clear : (k : ℕ) (ps : Items) → items_have_reference ps ≡ false → has_reference (bucket_written (computed_from k ps)) ≡ false
  computed_clear k no_items h = refl
  computed_clear k (item name no_items) h = pair_clear (written (expression_from k name)) (whole (pos 1)) (clear k name (or_left (has_reference name) false h)) refl
  computed_clear k (item name (item weight ts)) h =
      let rest = or_right (has_reference name) (has_reference weight || items_have_reference ts) h in
      pair_clear (written (expression_from k name)) (written (expression_from (k + sites (expression_from k name)) weight))
      (clear k name (or_left (has_reference name) (has_reference weight || items_have_reference ts) h))
      (clear (k + sites (expression_from k name)) weight (or_left (has_reference weight) (items_have_reference ts) rest))
