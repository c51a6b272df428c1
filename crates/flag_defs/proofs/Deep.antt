-- How many levels a tree has that is read as an expression: one more than the expression at most, for its literal buckets.
use Rattle.std.proofs.Common.{◌≡◌, ◌≤◌, ℕ, suc, List, Bool, true, false, cond, Some, refl, sym, ap, subst, arith}
use Rattle.bucket_core.specs.Reading.{bucket_with, weight_of}
use Rattle.flag_text.specs.Shape.{Shape, null, boolean, whole, other, text, list, object, Items, no_items, item, Members, no_members, member, levels, items_levels, members_levels}
use Rattle.logic_ast.specs.Operator.{is_fractional}
use Rattle.logic_ast.specs.Size.{Size, unless_literal, full_size, items_size, members_size, expression_size, object_size, expressions_size, arguments_size, site_size, buckets_size, bucket_parts_size, bucket_size}
use Rattle.flag_references.proofs.Sizes.{place_size, buckets_size-item}

-- a tree in full has as many levels as are counted
mutual
  full-levels : (t : Shape) → levels t ≡ (full_size t).levels
  full-levels null = refl
  full-levels (boolean b) = refl
  full-levels (whole n) = refl
  full-levels other = refl
  full-levels (text x) = refl
  full-levels (list ts) = ap suc (items-full ts)
  full-levels (object ms) = ap suc (members-full ms)

  items-full : (ts : Items) → items_levels ts ≡ (items_size ts).levels
  items-full no_items = refl
  items-full (item t ts) = rw (full-levels t, items-full ts) refl

  members-full : (ms : Members) → members_levels ms ≡ (members_size ms).levels
  members-full no_members = refl
  members-full (member k t ms) = rw (full-levels t, members-full ms) refl

-- by each way of reading it, without the lists and objects that are written round it
record Deep (t : Shape) : Type 0 where
  expression : levels t ≤ suc (expression_size t).levels
  arguments : levels t ≤ suc (suc (arguments_size t).levels)
  site : levels t ≤ suc (suc (site_size t).levels)
  place : levels t ≤ suc (place_size t).levels

record AllDeep (ts : Items) : Type 0 where
  expressions : items_levels ts ≤ suc (expressions_size ts).levels
  buckets : items_levels ts ≤ suc (buckets_size ts).levels

scalar-deep : (t : Shape) → levels t ≡ 0 → Deep t
scalar-deep t h = record { expression = omega arith; arguments = omega arith; site = omega arith; place = omega arith }

object-deep : (ms : Members) → levels (object ms) ≤ suc (object_size ms).levels → Deep (object ms)
object-deep ms h = record { expression = h; arguments = omega (arith, h); site = omega (arith, h); place = h }

pick-deep : (b : Bool) (x y : Size) (n : ℕ) → n ≤ suc (suc x.levels) → n ≤ suc (suc y.levels) → n ≤ suc (suc (cond b x y).levels)
pick-deep true x y n p q = p
pick-deep false x y n p q = q

-- ---- buckets

parts-deep : (ps : Items) → items_levels ps ≤ suc (expressions_size ps).levels → items_levels ps ≤ suc (bucket_parts_size ps).levels
parts-deep no_items h = h
parts-deep (item name no_items) h = omega (arith, h)
parts-deep (item a (item b ts)) h = h

named-deep : (t : Shape) (s : Size) → items_levels (item t no_items) ≤ suc s.levels → items_levels (item t no_items) ≤ (unless_literal (bucket_with (Some 1) t) s).levels
named-deep null s h = h
named-deep (boolean b) s h = h
named-deep (whole n) s h = h
named-deep other s h = h
named-deep (text x) s h = omega arith
named-deep (list ts) s h = h
named-deep (object ms) s h = h

text-deep : (x : List ℕ) (w : Shape) (s : Size) → items_levels (item (text x) (item w no_items)) ≤ suc s.levels
    → items_levels (item (text x) (item w no_items)) ≤ (unless_literal (bucket_with (weight_of w) (text x)) s).levels
text-deep x null s h = h
text-deep x (boolean b) s h = h
text-deep x (whole n) s h = omega arith
text-deep x other s h = h
text-deep x (text y) s h = h
text-deep x (list ts) s h = h
text-deep x (object ms) s h = h

weighed-deep : (t w : Shape) (s : Size) → items_levels (item t (item w no_items)) ≤ suc s.levels → items_levels (item t (item w no_items)) ≤ (unless_literal (bucket_with (weight_of w) t) s).levels
weighed-deep null w s h = h
weighed-deep (boolean b) w s h = h
weighed-deep (whole n) w s h = h
weighed-deep other w s h = h
weighed-deep (text x) w s h = text-deep x w s h
weighed-deep (list ts) w s h = h
weighed-deep (object ms) w s h = h

entry-deep : (ps : Items) → items_levels ps ≤ suc (bucket_parts_size ps).levels → items_levels ps ≤ (bucket_size ps).levels
entry-deep no_items h = h
entry-deep (item name no_items) h = named-deep name (bucket_parts_size (item name no_items)) h
entry-deep (item name (item weight no_items)) h = weighed-deep name weight (bucket_parts_size (item name (item weight no_items))) h
entry-deep (item a (item b (item c ts))) h = h

bucket-deep : (ps : Items) → items_levels ps ≤ suc (expressions_size ps).levels → suc (items_levels ps) ≤ suc (bucket_size ps).levels
bucket-deep ps h = omega (arith, entry-deep ps (parts-deep ps h))

-- ---- trees

mutual
  deep : (t : Shape) → Deep t
  deep null = scalar-deep null refl
  deep (boolean b) = scalar-deep (boolean b) refl
  deep (whole n) = scalar-deep (whole n) refl
  deep other = scalar-deep other refl
  deep (text x) = scalar-deep (text x) refl
  deep (list ts) =
      let p = all_deep ts in record {
        expression = omega (arith, p.expressions);
        arguments = omega (arith, p.expressions);
        site = omega (arith, p.buckets);
        place = bucket-deep ts p.expressions;
      }
  deep (object no_members) = object-deep no_members (omega arith)
  deep (object (member k t no_members)) =
      let p = deep t in
      let read = pick-deep (is_fractional k) (site_size t) (arguments_size t) (levels t) p.site p.arguments in
      object-deep (member k t no_members) (omega (arith, read))
  deep (object (member k t (member l u ms))) = object-deep (member k t (member l u ms)) (omega (arith, members-full (member k t (member l u ms))))

  all_deep : (ts : Items) → AllDeep ts
  all_deep no_items = record { expressions = omega arith; buckets = omega arith }
  all_deep (item t ts) =
      let p = deep t in
      let q = all_deep ts in record {
        expressions = omega (arith, p.expression, q.expressions);
        buckets = subst (λ s. items_levels (item t ts) ≤ suc s.levels) (sym (buckets_size-item t ts)) (omega (arith, p.place, q.buckets));
      }

pub levels-read : (t : Shape) → levels t ≤ suc (expression_size t).levels
levels-read t = (deep t).expression
