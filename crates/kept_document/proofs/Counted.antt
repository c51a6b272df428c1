-- The written form of an expression has as many sites as the expression.
use Rattle.std.proofs.Common.{◌≡◌, ℕ, suc, ◌+◌, true, false, List, ap, ◌∙◌, arith}
use Rattle.std.proofs.lemmas.Bool.{false≢true, and_parts}
use Rattle.flag_text.specs.Shape as shape
use Rattle.flag_text.specs.Shape.{Shape, null, boolean, whole, other, text, object, Items, no_items, item, no_members, member}
use Rattle.logic_ast.specs.Expression.{Expression, literal, list, operation, fractional, Expressions, no_expressions, expression, By, no_by, by, Buckets, no_buckets, bucket, Bucket, literal_bucket, computed_bucket}
use Rattle.logic_ast.specs.Formed.{is_literal, is_formed, are_formed, by_is_formed, buckets_are_formed, bucket_is_formed}
use Rattle.logic_ast.specs.Operator.{is_fractional, operator_name}
use Rattle.logic_ast.specs.Sites.{sites, sites_in, sites_in_by, sites_in_buckets, sites_in_bucket}
use Rattle.logic_ast.specs.Writing.{written, all_written, by_written, buckets_written, bucket_written}
use Rattle.logic_ast.proofs.Operators.{is_fractional-operator_name, is_fractional-fractional}
use Rattle.text_spans.specs.Path.{name, index}
use Rattle.kept_document.specs.Seeking.{later, under, or_next, of_operation, find_site, find_in_items}

-- a tree that has these sites is passed, and then the next items
next_item : (i a b n : ℕ) (t : Shape) (ts : Items) → ((m : ℕ) → find_site (a + m) t ≡ later m) → ((m : ℕ) → find_in_items (suc i) (b + m) ts ≡ later m) → find_in_items i ((a + b) + n) (item t ts) ≡ later n
next_item i a b n t ts one rest =
    let sum : (a + b) + n ≡ a + (b + n) = omega arith in
    ap (λ k. find_in_items i k (item t ts)) sum ∙ ap (λ s. or_next (under (index i) s) (λ m. find_in_items (suc i) m ts)) (one (b + n)) ∙ rest n

none_passed : (n : ℕ) → later (0 + n) ≡ later n
none_passed n = let e : 0 + n ≡ n = omega arith in ap later e

scalar_passed : (t : Shape) → is_literal t ≡ true → (n : ℕ) → find_site (0 + n) t ≡ later n
scalar_passed null h n = none_passed n
scalar_passed (boolean b) h n = none_passed n
scalar_passed (whole z) h n = none_passed n
scalar_passed other h n = none_passed n
scalar_passed (text s) h n = none_passed n
scalar_passed (shape.list ts) h n = absurd (false≢true h)
scalar_passed (object no_members) h n = none_passed n
scalar_passed (object (member k t no_members)) h n = absurd (false≢true h)
scalar_passed (object (member k t (member l u ms))) h n = none_passed n

-- an operation that is no site
of_other : (k : List ℕ) (ts : Items) (m n : ℕ) → is_fractional k ≡ false → find_in_items 0 m ts ≡ later n → of_operation m k ts (λ j. find_in_items 0 j ts) ≡ later n
of_other k ts m n no_site inside = rw no_site (ap (under (name k)) inside)

-- a site, and then those in its arguments
of_fractional : (k : List ℕ) (ts : Items) (a n : ℕ) → is_fractional k ≡ true → find_in_items 0 (a + n) ts ≡ later n → of_operation (suc a + n) k ts (λ j. find_in_items 0 j ts) ≡ later n
of_fractional k ts a n site inside =
    let more : suc a + n ≡ suc (a + n) = omega arith in
    ap (λ m. of_operation m k ts (λ j. find_in_items 0 j ts)) more ∙ rw site (ap (under (name k)) inside)

last_item : (a n : ℕ) (t : Shape) → ((m : ℕ) → find_site (a + m) t ≡ later m) → find_in_items 1 (a + n) (item t no_items) ≡ later n
last_item a n t one = ap (λ s. or_next (under (index 1) s) (λ m. find_in_items 2 m no_items)) (one n)

mutual
  pub counted : (e : Expression) (k : ℕ) → is_formed k e ≡ true → (n : ℕ) → find_site (sites e + n) (written e) ≡ later n
  counted (literal t) k h n = scalar_passed t (and_parts (is_literal t) _ h).0 n
  counted (list es) k h n = all_counted es k 0 h n
  counted (operation o es) k h n = of_other (operator_name o) (all_written es) (sites_in es + n) n (is_fractional-operator_name o) (all_counted es k 0 (and_parts _ _ h).1 n)
  counted (fractional m b bs) k h n =
      let parts = and_parts _ _ (and_parts _ _ h).1 in
      of_fractional _ (by_written b (buckets_written bs)) (sites_in_by b + sites_in_buckets bs) n is_fractional-fractional (by_counted b bs (suc k) parts.0 (λ i m. buckets_counted bs (suc k + sites_in_by b) i parts.1 m) n)

  pub all_counted : (es : Expressions) (k i : ℕ) → are_formed k es ≡ true → (n : ℕ) → find_in_items i (sites_in es + n) (all_written es) ≡ later n
  all_counted no_expressions k i h n = none_passed n
  all_counted (expression e es) k i h n =
      let parts = and_parts _ _ h in
      next_item i (sites e) (sites_in es) n (written e) (all_written es) (counted e k parts.0) (all_counted es (k + sites e) (suc i) parts.1)

  pub by_counted : (b : By) (bs : Buckets) (k : ℕ) → by_is_formed k b ≡ true → ((i m : ℕ) → find_in_items i (sites_in_buckets bs + m) (buckets_written bs) ≡ later m) → (n : ℕ) → find_in_items 0 ((sites_in_by b + sites_in_buckets bs) + n) (by_written b (buckets_written bs)) ≡ later n
  by_counted no_by bs k h g n =
      let none : (0 + sites_in_buckets bs) + n ≡ sites_in_buckets bs + n = omega arith in
      ap (λ m. find_in_items 0 m (buckets_written bs)) none ∙ g 0 n
  by_counted (by e) bs k h g n = next_item 0 (sites e) (sites_in_buckets bs) n (written e) (buckets_written bs) (counted e k (and_parts _ _ h).1) (g 1)

  pub buckets_counted : (bs : Buckets) (k i : ℕ) → buckets_are_formed k bs ≡ true → (n : ℕ) → find_in_items i (sites_in_buckets bs + n) (buckets_written bs) ≡ later n
  buckets_counted no_buckets k i h n = none_passed n
  buckets_counted (bucket b bs) k i h n =
      let parts = and_parts _ _ h in
      next_item i (sites_in_bucket b) (sites_in_buckets bs) n (bucket_written b) (buckets_written bs) (bucket_counted b k parts.0) (buckets_counted bs (k + sites_in_bucket b) (suc i) parts.1)

  pub bucket_counted : (b : Bucket) (k : ℕ) → bucket_is_formed k b ≡ true → (n : ℕ) → find_site (sites_in_bucket b + n) (bucket_written b) ≡ later n
  bucket_counted (literal_bucket s w) k h n = none_passed n
  bucket_counted (computed_bucket e w) k h n =
      let parts = and_parts _ _ (and_parts _ _ h).1 in
      next_item 0 (sites e) (sites w) n (written e) (item (written w) no_items) (counted e k parts.0) (λ m. last_item (sites w) m (written w) (counted w (k + sites e) parts.1))
