-- The sites of an expression that is formed have the numbers from k on, in preorder.
use Rattle.std.proofs.Common.{◌≡◌, ℕ, zero, suc, ◌+◌, ◌<◌, Bool, true, false, not, ◌&&◌, ◌||◌, ◌==◌, List, [], ◌∷◌, ◌++◌, length, Some, eqb-true, refl, sym, ap, ◌∙◌, arith, length-append}
use Rattle.std.specs.List.{find, slice_get}
use Rattle.std.specs.Option.{is_some, IfSome}
use Rattle.std.proofs.lemmas.Grind.{common_steps}
use Rattle.logic_ast.specs.Expression.{Expression, literal, list, operation, fractional, Expressions, no_expressions, expression, By, no_by, by, Buckets, no_buckets, bucket, Bucket, literal_bucket, computed_bucket}
use Rattle.logic_ast.specs.Formed.{is_list, are_literals, is_formed, are_formed, by_is_formed, buckets_are_formed, bucket_is_formed, expression_count}
use Rattle.logic_ast.specs.Operator.{takes}
use Rattle.logic_ast.specs.Sites.{Site, sites, sites_in, sites_in_by, sites_in_buckets, sites_in_bucket, preorder, preorder_in, preorder_in_by, preorder_in_buckets, preorder_in_bucket, entries_of}
use Rattle.logic_ast.proofs.Written.{left, right, both}

mutual
  pub length-preorder : (e : Expression) → length (preorder e) ≡ sites e
  length-preorder (literal t) = refl
  length-preorder (list es) = length-preorder_in es
  length-preorder (operation o es) = length-preorder_in es
  length-preorder (fractional n b bs) = ap suc (length-append (preorder_in_by b) (preorder_in_buckets bs) ∙ rw (length-preorder_in_by b, length-preorder_in_buckets bs) refl)

  length-preorder_in : (es : Expressions) → length (preorder_in es) ≡ sites_in es
  length-preorder_in no_expressions = refl
  length-preorder_in (expression e es) = length-append (preorder e) (preorder_in es) ∙ rw (length-preorder e, length-preorder_in es) refl

  pub length-preorder_in_by : (b : By) → length (preorder_in_by b) ≡ sites_in_by b
  length-preorder_in_by no_by = refl
  length-preorder_in_by (by e) = length-preorder e

  length-preorder_in_buckets : (bs : Buckets) → length (preorder_in_buckets bs) ≡ sites_in_buckets bs
  length-preorder_in_buckets no_buckets = refl
  length-preorder_in_buckets (bucket b bs) = length-append (preorder_in_bucket b) (preorder_in_buckets bs) ∙ rw (length-preorder_in_bucket b, length-preorder_in_buckets bs) refl

  length-preorder_in_bucket : (b : Bucket) → length (preorder_in_bucket b) ≡ sites_in_bucket b
  length-preorder_in_bucket (literal_bucket name weight) = refl
  length-preorder_in_bucket (computed_bucket name weight) = length-append (preorder name) (preorder weight) ∙ rw (length-preorder name, length-preorder weight) refl

-- the numbers from k on
pub are_numbered : ℕ → List Site → Bool
are_numbered k [] = true
are_numbered k (s ∷ ss) = s.number == k && are_numbered (suc k) ss

numbered-append : (k j : ℕ) (xs ys : List Site) → j ≡ k + length xs → are_numbered k xs ≡ true → are_numbered j ys ≡ true → are_numbered k (xs ++ ys) ≡ true
unfolding are_numbered
numbered-append k j [] ys e p q = let f : j ≡ k = omega arith in rw (← f) q
numbered-append k j (x ∷ xs) ys e p q = both (x.number == k) _ (left (x.number == k) _ p) (numbered-append (suc k) j xs ys (omega arith) (right (x.number == k) _ p) q)

mutual
  unfolding are_numbered

  pub numbered-preorder : (k : ℕ) (e : Expression) → is_formed k e ≡ true → are_numbered k (preorder e) ≡ true
  numbered-preorder k (literal t) h = refl
  numbered-preorder k (list es) h = numbered-preorder_in k es h
  numbered-preorder k (operation o es) h = numbered-preorder_in k es (right (takes o (expression_count es)) _ h)
  numbered-preorder k (fractional n b bs) h =
      let rest = right (n == k) _ h in
      both (n == k) _ (left (n == k) _ h)
      (numbered-append (suc k) (suc k + sites_in_by b) (preorder_in_by b) (preorder_in_buckets bs) (ap (λ x. suc k + x) (sym (length-preorder_in_by b)))
      (numbered-preorder_in_by (suc k) b (left (by_is_formed (suc k) b) _ rest)) (numbered-preorder_in_buckets (suc k + sites_in_by b) bs (right (by_is_formed (suc k) b) _ rest)))

  numbered-preorder_in : (k : ℕ) (es : Expressions) → are_formed k es ≡ true → are_numbered k (preorder_in es) ≡ true
  numbered-preorder_in k no_expressions h = refl
  numbered-preorder_in k (expression e es) h =
      numbered-append k (k + sites e) (preorder e) (preorder_in es) (ap (λ x. k + x) (sym (length-preorder e))) (numbered-preorder k e (left (is_formed k e) _ h)) (numbered-preorder_in (k + sites e) es (right (is_formed k e) _ h))

  numbered-preorder_in_by : (k : ℕ) (b : By) → by_is_formed k b ≡ true → are_numbered k (preorder_in_by b) ≡ true
  numbered-preorder_in_by k no_by h = refl
  numbered-preorder_in_by k (by e) h = numbered-preorder k e (right (not (is_list e)) _ h)

  numbered-preorder_in_buckets : (k : ℕ) (bs : Buckets) → buckets_are_formed k bs ≡ true → are_numbered k (preorder_in_buckets bs) ≡ true
  numbered-preorder_in_buckets k no_buckets h = refl
  numbered-preorder_in_buckets k (bucket b bs) h =
      numbered-append k (k + sites_in_bucket b) (preorder_in_bucket b) (preorder_in_buckets bs) (ap (λ x. k + x) (sym (length-preorder_in_bucket b)))
      (numbered-preorder_in_bucket k b (left (bucket_is_formed k b) _ h)) (numbered-preorder_in_buckets (k + sites_in_bucket b) bs (right (bucket_is_formed k b) _ h))

  numbered-preorder_in_bucket : (k : ℕ) (b : Bucket) → bucket_is_formed k b ≡ true → are_numbered k (preorder_in_bucket b) ≡ true
  numbered-preorder_in_bucket k (literal_bucket name weight) h = refl
  numbered-preorder_in_bucket k (computed_bucket name weight) h =
      let parts = right (not (are_literals name weight)) _ h in
      numbered-append k (k + sites name) (preorder name) (preorder weight) (ap (λ x. k + x) (sym (length-preorder name))) (numbered-preorder k name (left (is_formed k name) _ parts))
      (numbered-preorder (k + sites name) weight (right (is_formed k name) _ parts))

here : (a k n : ℕ) → (a == k) ≡ true → n ≡ k + 0 → (a == n) ≡ true
here a k n h e = grind (arith, common_steps, h, e)

elsewhere : (a k i n : ℕ) → (a == k) ≡ true → n ≡ k + suc i → (a == n) ≡ false
elsewhere a k i n h e = grind (arith, common_steps, h, e)

-- the site of a number stands at its place in preorder
pub find-numbered : (k i n : ℕ) (ss : List Site) → are_numbered k ss ≡ true → n ≡ k + i → find (λ s. s.number == n) ss ≡ slice_get ss i
unfolding are_numbered
find-numbered k i n [] h e = refl
find-numbered k zero n (s ∷ ss) h e = rw (here s.number k n (left (s.number == k) _ h) e) refl
find-numbered k (suc i) n (s ∷ ss) h e = rw (elsewhere s.number k i n (left (s.number == k) _ h) e) (find-numbered (suc k) i n ss (right (s.number == k) _ h) (omega arith))

-- each site of number n has literal buckets alone
abbrev pub is_literal_at : ℕ → List Site → Bool
is_literal_at n [] = true
is_literal_at n (s ∷ ss) = (not (s.number == n) || is_some (entries_of s.buckets)) && is_literal_at n ss

pub literal-left : (n : ℕ) (xs ys : List Site) → is_literal_at n (xs ++ ys) ≡ true → is_literal_at n xs ≡ true
literal-left n [] ys h = refl
literal-left n (x ∷ xs) ys h =
    both (not (x.number == n) || is_some (entries_of x.buckets)) _ (left (not (x.number == n) || is_some (entries_of x.buckets)) _ h)
    (literal-left n xs ys (right (not (x.number == n) || is_some (entries_of x.buckets)) _ h))

pub literal-right : (n : ℕ) (xs ys : List Site) → is_literal_at n (xs ++ ys) ≡ true → is_literal_at n ys ≡ true
literal-right n [] ys h = h
literal-right n (x ∷ xs) ys h = literal-right n xs ys (right (not (x.number == n) || is_some (entries_of x.buckets)) _ h)

unequal : (a k n : ℕ) → (a == k) ≡ true → n < k → (a == n) ≡ false
unequal a k n h e = grind (arith, common_steps, h, e)

literal-before : (k n : ℕ) (ss : List Site) → are_numbered k ss ≡ true → n < k → is_literal_at n ss ≡ true
unfolding are_numbered
literal-before k n [] h e = refl
literal-before k n (s ∷ ss) h e = rw (unequal s.number k n (left (s.number == k) _ h) e) (literal-before (suc k) n ss (right (s.number == k) _ h) (omega arith))

pub literal-at : (k i n : ℕ) (ss : List Site) (s : Site) → are_numbered k ss ≡ true → n ≡ k + i → slice_get ss i ≡ Some s → is_some (entries_of s.buckets) ≡ true → is_literal_at n ss ≡ true
unfolding are_numbered
literal-at k i n [] s h e at good = refl
literal-at k zero n (x ∷ xs) s h e at good =
    let same : x ≡ s = cc in
    rw (here x.number k n (left (x.number == k) _ h) e, same, good) (literal-before (suc k) n xs (right (x.number == k) _ h) (omega arith))
literal-at k (suc i) n (x ∷ xs) s h e at good =
    rw (elsewhere x.number k i n (left (x.number == k) _ h) e) (literal-at (suc k) i n xs s (right (x.number == k) _ h) (omega arith) at good)

equal-place : (a k i n : ℕ) → (a == k) ≡ true → n ≡ k + 0 → a ≡ n
equal-place a k i n h e = grind (arith, common_steps, h, e)

-- the number of a site is its place
pub number-at : (k i n : ℕ) (ss : List Site) → are_numbered k ss ≡ true → n ≡ k + i → IfSome (slice_get ss i) (λ s. s.number ≡ n)
unfolding are_numbered
number-at k i n [] h e = tt
number-at k zero n (s ∷ ss) h e = equal-place s.number k 0 n (left (s.number == k) _ h) e
number-at k (suc i) n (s ∷ ss) h e = number-at (suc k) i n ss (right (s.number == k) _ h) (omega arith)

-- the first of them has the number k, and the others go on from there
pub number-first : (k : ℕ) (s : Site) (ss : List Site) → are_numbered k (s ∷ ss) ≡ true → s.number ≡ k
unfolding are_numbered
number-first k s ss h = eqb-true s.number k (left (s.number == k) _ h)

pub numbered-rest : (k : ℕ) (s : Site) (ss : List Site) → are_numbered k (s ∷ ss) ≡ true → are_numbered (suc k) ss ≡ true
unfolding are_numbered
numbered-rest k s ss h = right (s.number == k) _ h
