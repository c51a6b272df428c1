-- An expression whose sites are numbered from 0 in place of d.
use Rattle.std.proofs.Common.{◌≡◌, ℕ, suc, ◌+◌, ◌-◌, true, not, ◌==◌, List, [], ◌∷◌, map, refl, ap, ap₂, ◌∙◌, arith}
use Rattle.std.proofs.lemmas.Grind.{common_steps}
use Rattle.logic_ast.specs.Expression.{Expression, literal, list, operation, fractional, Expressions, no_expressions, expression, By, no_by, by, Buckets, no_buckets, bucket, Bucket, literal_bucket, computed_bucket}
use Rattle.logic_ast.specs.Formed.{is_list, expression_count, are_literals, is_formed, are_formed, by_is_formed, buckets_are_formed, bucket_is_formed}
use Rattle.logic_ast.specs.Operator.{takes}
use Rattle.logic_ast.specs.Sites.{sites, sites_in, sites_in_by, sites_in_buckets, sites_in_bucket, lowered, all_lowered, by_lowered, buckets_lowered, bucket_lowered}
use Rattle.logic_ast.specs.View.{expressions_of, buckets_of, node_view, nodes_view, bucket_view, buckets_view}
use Rattle.logic_ast.specs.Writing.{written, all_written, buckets_written}
use Rattle.logic_ast.specs.declared.node.Bucket.{Bucket as BucketOf}
use Rattle.logic_ast.specs.declared.node.Node.{Node}
use Rattle.logic_ast.proofs.Written.{left, right, both}

-- by 0 it stays
mutual
  pub lowered-zero : (e : Expression) → lowered 0 e ≡ e
  lowered-zero (literal t) = refl
  lowered-zero (list es) = ap list (all_lowered-zero es)
  lowered-zero (operation o es) = ap (operation o) (all_lowered-zero es)
  lowered-zero (fractional n no_by bs) = let z : n - 0 ≡ n = omega arith in rw z (ap (fractional n no_by) (buckets_lowered-zero bs))
  lowered-zero (fractional n (by e) bs) = let z : n - 0 ≡ n = omega arith in rw z (ap₂ (λ x ys. fractional n (by x) ys) (lowered-zero e) (buckets_lowered-zero bs))

  all_lowered-zero : (es : Expressions) → all_lowered 0 es ≡ es
  all_lowered-zero no_expressions = refl
  all_lowered-zero (expression e es) = ap₂ expression (lowered-zero e) (all_lowered-zero es)

  buckets_lowered-zero : (bs : Buckets) → buckets_lowered 0 bs ≡ bs
  buckets_lowered-zero no_buckets = refl
  buckets_lowered-zero (bucket (literal_bucket name weight) bs) = ap (bucket (literal_bucket name weight)) (buckets_lowered-zero bs)
  buckets_lowered-zero (bucket (computed_bucket name weight) bs) =
      ap₂ (λ x y. bucket x y) (ap₂ computed_bucket (lowered-zero name) (lowered-zero weight)) (buckets_lowered-zero bs)

-- the program's lists, one by one
pub all_lowered-map : (d : ℕ) (ns : List Node) → all_lowered d (nodes_view ns) ≡ expressions_of (map (λ n. lowered d (node_view n)) ns)
all_lowered-map d [] = refl
all_lowered-map d (n ∷ ns) = ap (expression (lowered d (node_view n))) (all_lowered-map d ns)

pub buckets_lowered-map : (d : ℕ) (bs : List (BucketOf Node)) → buckets_lowered d (buckets_view bs) ≡ buckets_of (map (λ b. bucket_lowered d (bucket_view b)) bs)
buckets_lowered-map d [] = refl
buckets_lowered-map d (b ∷ bs) = ap (bucket (bucket_lowered d (bucket_view b))) (buckets_lowered-map d bs)

mutual
  pub sites-lowered : (d : ℕ) (e : Expression) → sites (lowered d e) ≡ sites e
  sites-lowered d (literal t) = refl
  sites-lowered d (list es) = sites_in-lowered d es
  sites-lowered d (operation o es) = sites_in-lowered d es
  sites-lowered d (fractional n b bs) = ap suc (ap₂ (λ x y. x + y) (sites_in_by-lowered d b) (sites_in_buckets-lowered d bs))

  sites_in-lowered : (d : ℕ) (es : Expressions) → sites_in (all_lowered d es) ≡ sites_in es
  sites_in-lowered d no_expressions = refl
  sites_in-lowered d (expression e es) = ap₂ (λ x y. x + y) (sites-lowered d e) (sites_in-lowered d es)

  sites_in_by-lowered : (d : ℕ) (b : By) → sites_in_by (by_lowered d b) ≡ sites_in_by b
  sites_in_by-lowered d no_by = refl
  sites_in_by-lowered d (by e) = sites-lowered d e

  sites_in_buckets-lowered : (d : ℕ) (bs : Buckets) → sites_in_buckets (buckets_lowered d bs) ≡ sites_in_buckets bs
  sites_in_buckets-lowered d no_buckets = refl
  sites_in_buckets-lowered d (bucket b bs) = ap₂ (λ x y. x + y) (sites_in_bucket-lowered d b) (sites_in_buckets-lowered d bs)

  sites_in_bucket-lowered : (d : ℕ) (b : Bucket) → sites_in_bucket (bucket_lowered d b) ≡ sites_in_bucket b
  sites_in_bucket-lowered d (literal_bucket name weight) = refl
  sites_in_bucket-lowered d (computed_bucket name weight) = ap₂ (λ x y. x + y) (sites-lowered d name) (sites-lowered d weight)

-- it is written as before
mutual
  pub written-lowered : (d : ℕ) (e : Expression) → written (lowered d e) ≡ written e
  written-lowered d (literal t) = refl
  written-lowered d (list es) = rw (all_written-lowered d es) refl
  written-lowered d (operation o es) = rw (all_written-lowered d es) refl
  written-lowered d (fractional n no_by bs) = rw (buckets_written-lowered d bs) refl
  written-lowered d (fractional n (by e) bs) = rw (written-lowered d e, buckets_written-lowered d bs) refl

  all_written-lowered : (d : ℕ) (es : Expressions) → all_written (all_lowered d es) ≡ all_written es
  all_written-lowered d no_expressions = refl
  all_written-lowered d (expression e es) = rw (written-lowered d e, all_written-lowered d es) refl

  buckets_written-lowered : (d : ℕ) (bs : Buckets) → buckets_written (buckets_lowered d bs) ≡ buckets_written bs
  buckets_written-lowered d no_buckets = refl
  buckets_written-lowered d (bucket (literal_bucket name weight) bs) = rw (buckets_written-lowered d bs) refl
  buckets_written-lowered d (bucket (computed_bucket name weight) bs) = rw (written-lowered d name, written-lowered d weight, buckets_written-lowered d bs) refl

expression_count-lowered : (d : ℕ) (es : Expressions) → expression_count (all_lowered d es) ≡ expression_count es
expression_count-lowered d no_expressions = refl
expression_count-lowered d (expression e es) = ap suc (expression_count-lowered d es)

is_list-lowered : (d : ℕ) (e : Expression) → is_list (lowered d e) ≡ is_list e
is_list-lowered d (literal t) = refl
is_list-lowered d (list es) = refl
is_list-lowered d (operation o es) = refl
is_list-lowered d (fractional n b bs) = refl

are_literals-lowered : (d : ℕ) (a b : Expression) → are_literals (lowered d a) (lowered d b) ≡ are_literals a b
are_literals-lowered d (literal t) (literal u) = refl
are_literals-lowered d (literal t) (list es) = refl
are_literals-lowered d (literal t) (operation o es) = refl
are_literals-lowered d (literal t) (fractional n b bs) = refl
are_literals-lowered d (list es) b = refl
are_literals-lowered d (operation o es) b = refl
are_literals-lowered d (fractional n c bs) b = refl

shifted : (n k j d : ℕ) → k ≡ d + j → (n == k) ≡ true → ((n - d) == j) ≡ true
shifted n k j d e h = grind (arith, common_steps, e, h)

-- what is formed from d + j on is formed from j on
mutual
  pub is_formed-lowered : (d k j : ℕ) (e : Expression) → k ≡ d + j → is_formed k e ≡ true → is_formed j (lowered d e) ≡ true
  is_formed-lowered d k j (literal t) p h = h
  is_formed-lowered d k j (list es) p h = are_formed-lowered d k j es p h
  is_formed-lowered d k j (operation o es) p h =
      both (takes o (expression_count (all_lowered d es))) _ (ap (takes o) (expression_count-lowered d es) ∙ left (takes o (expression_count es)) _ h) (are_formed-lowered d k j es p (right (takes o (expression_count es)) _ h))
  is_formed-lowered d k j (fractional n b bs) p h =
      let rest = right (n == k) _ h in
      let q : suc k ≡ d + suc j = omega arith in
      let r : suc k + sites_in_by b ≡ d + (suc j + sites_in_by (by_lowered d b)) = omega (arith, sites_in_by-lowered d b) in
      both ((n - d) == j) _ (shifted n k j d p (left (n == k) _ h))
      (both (by_is_formed (suc j) (by_lowered d b)) _ (by_is_formed-lowered d (suc k) (suc j) b q (left (by_is_formed (suc k) b) _ rest))
      (buckets_are_formed-lowered d (suc k + sites_in_by b) (suc j + sites_in_by (by_lowered d b)) bs r (right (by_is_formed (suc k) b) _ rest)))

  are_formed-lowered : (d k j : ℕ) (es : Expressions) → k ≡ d + j → are_formed k es ≡ true → are_formed j (all_lowered d es) ≡ true
  are_formed-lowered d k j no_expressions p h = refl
  are_formed-lowered d k j (expression e es) p h =
      let q : k + sites e ≡ d + (j + sites (lowered d e)) = omega (arith, sites-lowered d e) in
      both (is_formed j (lowered d e)) _ (is_formed-lowered d k j e p (left (is_formed k e) _ h)) (are_formed-lowered d (k + sites e) (j + sites (lowered d e)) es q (right (is_formed k e) _ h))

  pub by_is_formed-lowered : (d k j : ℕ) (b : By) → k ≡ d + j → by_is_formed k b ≡ true → by_is_formed j (by_lowered d b) ≡ true
  by_is_formed-lowered d k j no_by p h = refl
  by_is_formed-lowered d k j (by e) p h =
      both (not (is_list (lowered d e))) _ (ap not (is_list-lowered d e) ∙ left (not (is_list e)) _ h) (is_formed-lowered d k j e p (right (not (is_list e)) _ h))

  buckets_are_formed-lowered : (d k j : ℕ) (bs : Buckets) → k ≡ d + j → buckets_are_formed k bs ≡ true → buckets_are_formed j (buckets_lowered d bs) ≡ true
  buckets_are_formed-lowered d k j no_buckets p h = refl
  buckets_are_formed-lowered d k j (bucket b bs) p h =
      let q : k + sites_in_bucket b ≡ d + (j + sites_in_bucket (bucket_lowered d b)) = omega (arith, sites_in_bucket-lowered d b) in
      both (bucket_is_formed j (bucket_lowered d b)) _ (bucket_is_formed-lowered d k j b p (left (bucket_is_formed k b) _ h))
      (buckets_are_formed-lowered d (k + sites_in_bucket b) (j + sites_in_bucket (bucket_lowered d b)) bs q (right (bucket_is_formed k b) _ h))

  bucket_is_formed-lowered : (d k j : ℕ) (b : Bucket) → k ≡ d + j → bucket_is_formed k b ≡ true → bucket_is_formed j (bucket_lowered d b) ≡ true
  bucket_is_formed-lowered d k j (literal_bucket name weight) p h = h
  bucket_is_formed-lowered d k j (computed_bucket name weight) p h =
      let parts = right (not (are_literals name weight)) _ h in
      let q : k + sites name ≡ d + (j + sites (lowered d name)) = omega (arith, sites-lowered d name) in
      both (not (are_literals (lowered d name) (lowered d weight))) _ (ap not (are_literals-lowered d name weight) ∙ left (not (are_literals name weight)) _ h)
      (both (is_formed j (lowered d name)) _ (is_formed-lowered d k j name p (left (is_formed k name) _ parts)) (is_formed-lowered d (k + sites name) (j + sites (lowered d name)) weight q (right (is_formed k name) _ parts)))

pub by_lowered-zero : (b : By) → by_lowered 0 b ≡ b
by_lowered-zero no_by = refl
by_lowered-zero (by e) = ap by (lowered-zero e)
