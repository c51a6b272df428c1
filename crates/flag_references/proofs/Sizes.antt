-- The measures of a tree count its nodes and levels as an expression's are counted, up to the most that is counted.
use Rattle.std.proofs.Common.{◌≡◌, ℕ, ◌≤◌, pos, negsuc, List, Bool, true, false, ◌&&◌, min, nat_lt, cond, if◌then◌else◌, Some, None, refl, sym, subst, arith, length, not}
use Rattle.std.proofs.lemmas.Bool.{ne_eqb}
use Rattle.bucket_core.specs.Reading.{bucket_with, weight_of}
use Rattle.flag_text.specs.Shape.{Shape, null, boolean, whole, other, text, list, object, Items, no_items, item, Members, no_members, member}
use Rattle.logic_ast.specs.FirstFault.{item_count, argument_count}
use Rattle.logic_ast.specs.Operator.{is_fractional, operator_of}
use Rattle.logic_ast.specs.Size as size
use Rattle.logic_ast.specs.Size.{Size, unless_literal, full_size, items_size, members_size, expression_size, object_size, expressions_size, arguments_size, site_size, buckets_size, bucket_parts_size, bucket_size}
use Rattle.flag_references.specs.Measure.{nothing, scalar, beside, around, when, measure, parts, members_full, in_place_of_bucket, operation_reading, operation_measure, takes_count, object_measure, member_in_front, first_of_site, plus}
use Rattle.flag_references.specs.Inlining.{is_reference_name}
use Rattle.flag_references.specs.declared.measure.Reading.{Reading}
use Rattle.flag_references.specs.declared.measure.Measure.{Measure}
use Rattle.flag_references.specs.declared.measure.Parts.{Parts}

-- the reading counts so many nodes and levels
pub record Counts (r : Reading) (s : Size) : Type 0 where
  pub nodes : r.nodes ≡ min s.nodes 4194305
  pub levels : r.levels ≡ min s.levels 4194305

counts_nothing : Counts nothing size.nothing
counts_nothing = record { nodes = refl; levels = refl }

counts_scalar : Counts scalar size.scalar
counts_scalar = record { nodes = refl; levels = refl }

counts_beside : (a b : Reading) (s t : Size) → Counts a s → Counts b t → Counts (beside a b) (size.beside s t)
counts_beside a b s t p q = record {
  nodes = omega (arith, p.nodes, q.nodes);
  levels = omega (arith, p.levels, q.levels);
}

counts_around : (a : Reading) (s : Size) → Counts a s → Counts (around a) (size.around s)
counts_around a s p = record {
  nodes = omega (arith, p.nodes);
  levels = omega (arith, p.levels);
}

counts_when : (b : Bool) (a : Reading) (s : Size) → Counts a s → Counts (when b a) s
counts_when b a s p = record { nodes = p.nodes; levels = p.levels }

counts_pick : (b : Bool) (x y : Reading) (s t : Size) → Counts x s → Counts y t → Counts (cond b x y) (cond b s t)
counts_pick true x y s t p q = p
counts_pick false x y s t p q = q

-- with nothing behind it
counts_end : (a : Reading) (s : Size) → Counts a s → Counts (beside a nothing) s
counts_end a s p = record { nodes = omega (arith, p.nodes); levels = omega (arith, p.levels) }

-- ---- buckets

-- what stands in the place of a bucket
abbrev pub place_size : Shape → Size
place_size (list ps) = bucket_size ps
place_size t = expression_size t

pub record Counted (m : Measure) (t : Shape) : Type 0 where
  pub full : Counts m.full (full_size t)
  pub expression : Counts m.expression (expression_size t)
  pub arguments : Counts m.arguments (arguments_size t)
  pub site : Counts m.site (site_size t)
  pub bucket : Counts m.bucket (place_size t)
  pub argument_count : m.argument_count ≡ argument_count t

pub record AllCounted (p : Parts) (ts : Items) : Type 0 where
  pub full : Counts p.full (items_size ts)
  pub expressions : Counts p.expressions (expressions_size ts)
  pub site : Counts p.site (buckets_size ts)
  pub buckets : Counts p.buckets (buckets_size ts)

named_bucket : (t : Shape) (r : Reading) (s : Size) → Counts r s → Counts (cond (measure t).is_text nothing (around r)) (unless_literal (bucket_with (Some 1) t) s)
named_bucket null r s p = counts_around r s p
named_bucket (boolean b) r s p = counts_around r s p
named_bucket (whole (pos n)) r s p = counts_around r s p
named_bucket (whole (negsuc n)) r s p = counts_around r s p
named_bucket other r s p = counts_around r s p
named_bucket (text x) r s p = counts_nothing
named_bucket (list ts) r s p = counts_around r s p
named_bucket (object no_members) r s p = counts_around r s p
named_bucket (object (member k t no_members)) r s p = counts_around r s p
named_bucket (object (member k t (member l u ms))) r s p = counts_around r s p

weighed : (b : Bool) (n : ℕ) (x : List ℕ) (r : Reading) (s : Size) → Counts r s
    → Counts (cond (true && b) nothing (around r)) (unless_literal (bucket_with (cond b (Some n) None) (text x)) s)
weighed true n x r s p = counts_nothing
weighed false n x r s p = counts_around r s p

text_bucket : (x : List ℕ) (w : Shape) (r : Reading) (s : Size) → Counts r s → Counts (cond (true && (measure w).is_weight) nothing (around r)) (unless_literal (bucket_with (weight_of w) (text x)) s)
text_bucket x null r s p = counts_around r s p
text_bucket x (boolean b) r s p = counts_around r s p
text_bucket x (whole (pos n)) r s p = weighed (nat_lt n 2147483648) n x r s p
text_bucket x (whole (negsuc n)) r s p = counts_around r s p
text_bucket x other r s p = counts_around r s p
text_bucket x (text y) r s p = counts_around r s p
text_bucket x (list ts) r s p = counts_around r s p
text_bucket x (object no_members) r s p = counts_around r s p
text_bucket x (object (member k t no_members)) r s p = counts_around r s p
text_bucket x (object (member k t (member l u ms))) r s p = counts_around r s p

weighed_bucket : (t w : Shape) (r : Reading) (s : Size) → Counts r s
    → Counts (cond ((measure t).is_text && (measure w).is_weight) nothing (around r)) (unless_literal (bucket_with (weight_of w) t) s)
weighed_bucket null w r s p = counts_around r s p
weighed_bucket (boolean b) w r s p = counts_around r s p
weighed_bucket (whole (pos n)) w r s p = counts_around r s p
weighed_bucket (whole (negsuc n)) w r s p = counts_around r s p
weighed_bucket other w r s p = counts_around r s p
weighed_bucket (text x) w r s p = text_bucket x w r s p
weighed_bucket (list ts) w r s p = counts_around r s p
weighed_bucket (object no_members) w r s p = counts_around r s p
weighed_bucket (object (member k t no_members)) w r s p = counts_around r s p
weighed_bucket (object (member k t (member l u ms))) w r s p = counts_around r s p

pub many_bucket : (n : ℕ) (p : Parts) → 3 ≤ n → in_place_of_bucket n p ≡ when false (around p.expressions)
many_bucket n p h = rw (ne_eqb n 1 (λ e. omega arith), ne_eqb n 2 (λ e. omega arith)) refl

bucket_counts : (ps : Items) → Counts (parts ps).expressions (expressions_size ps) → Counts (in_place_of_bucket (item_count ps) (parts ps)) (bucket_size ps)
bucket_counts no_items h = counts_when false (around nothing) (size.around size.nothing) (counts_around nothing size.nothing counts_nothing)
bucket_counts (item name no_items) h =
    named_bucket name (beside (parts (item name no_items)).expressions scalar) (size.beside (expression_size name) size.scalar)
    (record { nodes = omega (arith, h.nodes); levels = omega (arith, h.levels) })
bucket_counts (item name (item weight no_items)) h = weighed_bucket name weight (parts (item name (item weight no_items))).expressions (expressions_size (item name (item weight no_items))) h
bucket_counts (item a (item b (item d ts))) h =
    let ps = item a (item b (item d ts)) in
    subst (λ r. Counts r (bucket_size ps)) (sym (many_bucket (item_count ps) (parts ps) (omega arith)))
    (counts_when false (around (parts ps).expressions) (size.around (expressions_size ps)) (counts_around (parts ps).expressions (expressions_size ps) h))

-- ---- objects

object_counted : (full expression : Reading) (bytes : ℕ) (ms : Members) → Counts full (full_size (object ms)) → Counts expression (object_size ms) → Counted (object_measure full expression bytes) (object ms)
object_counted full expression bytes ms p q = record {
  full = p;
  expression = q;
  arguments = q;
  site = q;
  bucket = counts_when false expression (object_size ms) q;
  argument_count = refl;
}

literal_counted : (all : Reading) (s : Size) → Counts all s → Counts (around (record all { is_sound = true })) (size.around s)
literal_counted all s p = record { nodes = omega (arith, p.nodes); levels = omega (arith, p.levels) }

operation_counted : (k : List ℕ) (t : Shape) → Counted (measure t) t → Counted (operation_measure k (measure t)) (object (member k t no_members))
operation_counted k t c =
    let m = measure t in
    let one = when (not (is_reference_name k && m.is_text)) m.full in
    let s = size.beside (full_size t) size.nothing in
    let read = counts_pick (is_fractional k) m.site (when (takes_count (operator_of k) m.argument_count) m.arguments) (site_size t) (arguments_size t) c.site
    (counts_when (takes_count (operator_of k) m.argument_count) m.arguments (arguments_size t) c.arguments) in
    let inner = if is_fractional k then site_size t else arguments_size t in
    object_counted (around one) (around (around (operation_reading k m))) (plus (length k) m.bytes) (member k t no_members)
    (record { nodes = omega (arith, c.full.nodes); levels = omega (arith, c.full.levels) })
    (counts_around (around (operation_reading k m)) (size.around inner) (counts_around (operation_reading k m) inner read))

-- ---- items

first_counted : (t : Shape) → Counted (measure t) t → Counts (first_of_site (measure t)) (place_size t)
first_counted null c = c.expression
first_counted (boolean b) c = c.expression
first_counted (whole (pos n)) c = c.expression
first_counted (whole (negsuc n)) c = c.expression
first_counted other c = c.expression
first_counted (text x) c = c.expression
first_counted (list ts) c = c.bucket
first_counted (object no_members) c = c.expression
first_counted (object (member k t no_members)) c = c.expression
first_counted (object (member k t (member l u ms))) c = c.expression

pub buckets_size-item : (t : Shape) (ts : Items) → buckets_size (item t ts) ≡ size.beside (place_size t) (buckets_size ts)
buckets_size-item null ts = refl
buckets_size-item (boolean b) ts = refl
buckets_size-item (whole n) ts = refl
buckets_size-item other ts = refl
buckets_size-item (text x) ts = refl
buckets_size-item (list ps) ts = refl
buckets_size-item (object ms) ts = refl

whole_counted : (b : Bool) → Counts (when b scalar) size.scalar
whole_counted b = counts_when b scalar size.scalar counts_scalar

mutual
  pub counted : (t : Shape) → Counted (measure t) t
  counted null = record { full = whole_counted true; expression = counts_scalar; arguments = counts_scalar; site = counts_scalar; bucket = whole_counted false; argument_count = refl }
  counted (boolean b) = record { full = whole_counted true; expression = counts_scalar; arguments = counts_scalar; site = counts_scalar; bucket = whole_counted false; argument_count = refl }
  counted (whole (pos n)) =
      record { full = whole_counted _; expression = counts_scalar; arguments = counts_scalar; site = counts_scalar; bucket = whole_counted false; argument_count = refl }
  counted (whole (negsuc n)) =
      record { full = whole_counted _; expression = counts_scalar; arguments = counts_scalar; site = counts_scalar; bucket = whole_counted false; argument_count = refl }
  counted other = record { full = whole_counted false; expression = counts_scalar; arguments = counts_scalar; site = counts_scalar; bucket = whole_counted false; argument_count = refl }
  counted (text x) = record { full = whole_counted true; expression = counts_scalar; arguments = counts_scalar; site = counts_scalar; bucket = whole_counted false; argument_count = refl }
  counted (list ts) =
      let p = all_counted ts in record {
        full = counts_around (parts ts).full (items_size ts) p.full;
        expression = counts_around (parts ts).expressions (expressions_size ts) p.expressions;
        arguments = p.expressions;
        site = p.site;
        bucket = bucket_counts ts p.expressions;
        argument_count = refl;
      }
  counted (object no_members) = object_counted (around nothing) (around nothing) 0 no_members (counts_around nothing size.nothing counts_nothing) (counts_around nothing size.nothing counts_nothing)
  counted (object (member k t no_members)) = operation_counted k t (counted t)
  counted (object (member k t (member l u ms))) =
      let all = member_in_front k (measure t) (member_in_front l (measure u) (members_full ms)) in
      let s = members_size (member k t (member l u ms)) in
      let c = counts_beside (measure t).full (beside (measure u).full (members_full ms).0) (full_size t) (size.beside (full_size u) (members_size ms)) (counted t).full
      (counts_beside (measure u).full (members_full ms).0 (full_size u) (members_size ms) (counted u).full (members_counted ms)) in
      object_counted (around all.0) (around (record all.0 { is_sound = true })) all.1 (member k t (member l u ms)) (counts_around all.0 s c) (literal_counted all.0 s c)

  members_counted : (ms : Members) → Counts (members_full ms).0 (members_size ms)
  members_counted no_members = counts_nothing
  members_counted (member k t ms) = counts_beside (measure t).full (members_full ms).0 (full_size t) (members_size ms) (counted t).full (members_counted ms)

  all_counted : (ts : Items) → AllCounted (parts ts) ts
  all_counted no_items = record { full = counts_nothing; expressions = counts_nothing; site = counts_nothing; buckets = counts_nothing }
  all_counted (item t ts) =
      let c = counted t in
      let p = all_counted ts in
      let m = measure t in
      let ps = parts ts in
      let here = buckets_size-item t ts in record {
        full = counts_beside m.full ps.full (full_size t) (items_size ts) c.full p.full;
        expressions = counts_beside m.expression ps.expressions (expression_size t) (expressions_size ts) c.expression p.expressions;
        site = subst (λ s. Counts (beside (first_of_site m) ps.buckets) s) (sym here) (counts_beside (first_of_site m) ps.buckets (place_size t) (buckets_size ts) (first_counted t c) p.buckets);
        buckets = subst (λ s. Counts (beside m.bucket ps.buckets) s) (sym here) (counts_beside m.bucket ps.buckets (place_size t) (buckets_size ts) c.bucket p.buckets);
      }
