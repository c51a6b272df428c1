-- An expression with other entries at one site.
use Rattle.std.proofs.Common.{◌≡◌, ℕ, suc, ◌+◌, ◌<◌, ◌^◌, pos, Bool, true, false, not, ◌&&◌, ◌||◌, ◌==◌, nat_lt, cond, List, [], ◌∷◌, ◌++◌, map, Option, Some, None, option_map, Ok, Err, eq-eqb, refl, sym, ap, ap₂, ◌∙◌, arith}
use Rattle.std.specs.Option.{is_some}
use Rattle.std.proofs.lemmas.Grind.{common_steps}
use Rattle.std.proofs.lemmas.List.Sums.{sum_by-cons}
use Rattle.bucket_core.specs.Rule.{Entries, total_weight}
use Rattle.flag_text.specs.Shape.{Shape, whole, text, Items, no_items, item}
use Rattle.logic_ast.specs.Expression.{Expression, literal, list, operation, fractional, Expressions, no_expressions, expression, By, no_by, by, Buckets, no_buckets, bucket, Bucket, literal_bucket, computed_bucket}
use Rattle.logic_ast.specs.Formed.{is_list, expression_count, are_literals, is_formed, are_formed, by_is_formed, buckets_are_formed, bucket_is_formed, is_well_formed}
use Rattle.logic_ast.specs.Operator.{takes}
use Rattle.logic_ast.specs.Sites.{sites, sites_in, sites_in_by, sites_in_buckets, sites_in_bucket, preorder, preorder_in, preorder_in_by, preorder_in_buckets, preorder_in_bucket, entries_of, literal_buckets, with_entries, all_with_entries, by_with_entries, buckets_with_entries, bucket_with_entries, if_entries}
use Rattle.logic_ast.specs.Size.{Size, nothing, beside, around, expression_size, expressions_size, buckets_size, bucket_size, is_over}
use Rattle.logic_ast.specs.Writing.{written, all_written, by_written, buckets_written, bucket_written}
use Rattle.logic_ast.specs.View.{expressions_of, buckets_of, node_view, nodes_view, bucket_view, buckets_view}
use Rattle.logic_ast.specs.declared.node.Bucket.{Bucket as BucketOf}
use Rattle.logic_ast.specs.declared.node.Node.{Node}
use Rattle.logic_ast.specs.declared.fault.LogicFault.TheVariants.{Computed}
use Rattle.logic_ast.specs.declared.operator.Operator.{Operator}
use Rattle.logic_ast.proofs.Measured.{buckets_size-other, fractional-size}
use Rattle.logic_ast.proofs.Numbered.{is_literal_at, literal-left, literal-right}
use Rattle.logic_ast.proofs.Operators.{is_fractional-operator_name}
use Rattle.logic_ast.proofs.Written.{left, right, both, not-true, written-no_list, entry_of-computed}

-- ---- two changes of one site: the later counts

pick-again : (b : Bool) (n : ℕ) (q r : Entries) (m : ℕ) (c : By) (bs : Buckets) → (m == n) ≡ b → by_with_entries n q (by_with_entries n r c) ≡ by_with_entries n q c
    → buckets_with_entries n q (buckets_with_entries n r bs) ≡ buckets_with_entries n q bs
    → with_entries n q (cond b (fractional m c (literal_buckets r)) (fractional m (by_with_entries n r c) (buckets_with_entries n r bs))) ≡ with_entries n q (fractional m c bs)
pick-again true n q r m c bs e x y = rw e refl
pick-again false n q r m c bs e x y = rw e (ap₂ (fractional m) x y)

mutual
  pub with_entries-again : (n : ℕ) (q r : Entries) (e : Expression) → with_entries n q (with_entries n r e) ≡ with_entries n q e
  with_entries-again n q r (literal t) = refl
  with_entries-again n q r (list es) = ap list (all_with_entries-again n q r es)
  with_entries-again n q r (operation o es) = ap (operation o) (all_with_entries-again n q r es)
  with_entries-again n q r (fractional m b bs) =
      pick-again (m == n) n q r m b bs refl (by_with_entries-again n q r b) (buckets_with_entries-again n q r bs)

  all_with_entries-again : (n : ℕ) (q r : Entries) (es : Expressions) → all_with_entries n q (all_with_entries n r es) ≡ all_with_entries n q es
  all_with_entries-again n q r no_expressions = refl
  all_with_entries-again n q r (expression e es) = ap₂ expression (with_entries-again n q r e) (all_with_entries-again n q r es)

  by_with_entries-again : (n : ℕ) (q r : Entries) (b : By) → by_with_entries n q (by_with_entries n r b) ≡ by_with_entries n q b
  by_with_entries-again n q r no_by = refl
  by_with_entries-again n q r (by e) = ap by (with_entries-again n q r e)

  buckets_with_entries-again : (n : ℕ) (q r : Entries) (bs : Buckets) → buckets_with_entries n q (buckets_with_entries n r bs) ≡ buckets_with_entries n q bs
  buckets_with_entries-again n q r no_buckets = refl
  buckets_with_entries-again n q r (bucket b bs) = ap₂ (λ x ys. bucket x ys) (bucket_with_entries-again n q r b) (buckets_with_entries-again n q r bs)

  bucket_with_entries-again : (n : ℕ) (q r : Entries) (b : Bucket) → bucket_with_entries n q (bucket_with_entries n r b) ≡ bucket_with_entries n q b
  bucket_with_entries-again n q r (literal_bucket name weight) = refl
  bucket_with_entries-again n q r (computed_bucket name weight) = ap₂ computed_bucket (with_entries-again n q r name) (with_entries-again n q r weight)

-- ---- where the old entries are literal, as many sites stay

pub map-some : {A B : Type 0} (f : A → B) (o : Option A) → is_some (option_map f o) ≡ true → is_some o ≡ true
map-some f None h = h
map-some f (Some a) h = refl

no-sites : (bs : Buckets) → is_some (entries_of bs) ≡ true → sites_in_buckets bs ≡ 0
no-sites no_buckets h = refl
no-sites (bucket (literal_bucket name weight) bs) h = omega (arith, no-sites bs (map-some _ (entries_of bs) h))
no-sites (bucket (computed_bucket name weight) bs) h = cc

pub entries_of-literal : (r : Entries) → entries_of (literal_buckets r) ≡ Some r
entries_of-literal [] = refl
entries_of-literal (e ∷ es) = ap (option_map (λ xs. (e.0, e.1) ∷ xs)) (entries_of-literal es)

sites-literal : (r : Entries) → sites_in_buckets (literal_buckets r) ≡ 0
sites-literal r = no-sites (literal_buckets r) (ap is_some (entries_of-literal r))

pick-sites : (b : Bool) (r : Entries) (m : ℕ) (c : By) (bs : Buckets) (d : By) (ds : Buckets) → (not b || is_some (entries_of bs)) ≡ true → sites_in_by d ≡ sites_in_by c → sites_in_buckets ds ≡ sites_in_buckets bs
    → sites (cond b (fractional m c (literal_buckets r)) (fractional m d ds)) ≡ sites (fractional m c bs)
pick-sites true r m c bs d ds h x y = ap (λ z. suc (sites_in_by c + z)) (sites-literal r ∙ sym (no-sites bs h))
pick-sites false r m c bs d ds h x y = ap suc (ap₂ (λ a b. a + b) x y)

mutual
  pub sites-with : (n : ℕ) (r : Entries) (e : Expression) → is_literal_at n (preorder e) ≡ true → sites (with_entries n r e) ≡ sites e
  sites-with n r (literal t) h = refl
  sites-with n r (list es) h = sites_in-with n r es h
  sites-with n r (operation o es) h = sites_in-with n r es h
  sites-with n r (fractional m b bs) h =
      let rest = right (not (m == n) || is_some (entries_of bs)) _ h in
      pick-sites (m == n) r m b bs (by_with_entries n r b) (buckets_with_entries n r bs) (left (not (m == n) || is_some (entries_of bs)) _ h)
      (sites_in_by-with n r b (literal-left n (preorder_in_by b) (preorder_in_buckets bs) rest)) (sites_in_buckets-with n r bs (literal-right n (preorder_in_by b) (preorder_in_buckets bs) rest))

  sites_in-with : (n : ℕ) (r : Entries) (es : Expressions) → is_literal_at n (preorder_in es) ≡ true → sites_in (all_with_entries n r es) ≡ sites_in es
  sites_in-with n r no_expressions h = refl
  sites_in-with n r (expression e es) h =
      ap₂ (λ x y. x + y) (sites-with n r e (literal-left n (preorder e) (preorder_in es) h)) (sites_in-with n r es (literal-right n (preorder e) (preorder_in es) h))

  sites_in_by-with : (n : ℕ) (r : Entries) (b : By) → is_literal_at n (preorder_in_by b) ≡ true → sites_in_by (by_with_entries n r b) ≡ sites_in_by b
  sites_in_by-with n r no_by h = refl
  sites_in_by-with n r (by e) h = sites-with n r e h

  sites_in_buckets-with : (n : ℕ) (r : Entries) (bs : Buckets) → is_literal_at n (preorder_in_buckets bs) ≡ true → sites_in_buckets (buckets_with_entries n r bs) ≡ sites_in_buckets bs
  sites_in_buckets-with n r no_buckets h = refl
  sites_in_buckets-with n r (bucket b bs) h =
      ap₂ (λ x y. x + y) (sites_in_bucket-with n r b (literal-left n (preorder_in_bucket b) (preorder_in_buckets bs) h)) (sites_in_buckets-with n r bs (literal-right n (preorder_in_bucket b) (preorder_in_buckets bs) h))

  sites_in_bucket-with : (n : ℕ) (r : Entries) (b : Bucket) → is_literal_at n (preorder_in_bucket b) ≡ true → sites_in_bucket (bucket_with_entries n r b) ≡ sites_in_bucket b
  sites_in_bucket-with n r (literal_bucket name weight) h = refl
  sites_in_bucket-with n r (computed_bucket name weight) h =
      ap₂ (λ x y. x + y) (sites-with n r name (literal-left n (preorder name) (preorder weight) h)) (sites-with n r weight (literal-right n (preorder name) (preorder weight) h))

-- ---- it stays formed

-- each weight is below 2^31
pub are_small : Entries → Bool
are_small [] = true
are_small (e ∷ es) = nat_lt e.1 (2 ^ 31) && are_small es

literal-formed : (k : ℕ) (r : Entries) → are_small r ≡ true → buckets_are_formed k (literal_buckets r) ≡ true
unfolding are_small
literal-formed k [] h = refl
literal-formed k (e ∷ es) h = both (nat_lt e.1 (2 ^ 31)) _ (left (nat_lt e.1 (2 ^ 31)) _ h) (literal-formed (k + 0) es (right (nat_lt e.1 (2 ^ 31)) _ h))

expression_count-with : (n : ℕ) (r : Entries) (es : Expressions) → expression_count (all_with_entries n r es) ≡ expression_count es
expression_count-with n r no_expressions = refl
expression_count-with n r (expression e es) = ap suc (expression_count-with n r es)

pick-list : (b : Bool) (m : ℕ) (c d : By) (bs ds : Buckets) → is_list (cond b (fractional m c bs) (fractional m d ds)) ≡ false
pick-list true m c d bs ds = refl
pick-list false m c d bs ds = refl

is_list-with : (n : ℕ) (r : Entries) (e : Expression) → is_list (with_entries n r e) ≡ is_list e
is_list-with n r (literal t) = refl
is_list-with n r (list es) = refl
is_list-with n r (operation o es) = refl
is_list-with n r (fractional m b bs) = pick-list (m == n) m b (by_with_entries n r b) (literal_buckets r) (buckets_with_entries n r bs)

pick-left : (b : Bool) (m : ℕ) (c d : By) (bs ds : Buckets) (e : Expression) → are_literals (cond b (fractional m c bs) (fractional m d ds)) e ≡ false
pick-left true m c d bs ds e = refl
pick-left false m c d bs ds e = refl

pick-right : (b : Bool) (t : Shape) (m : ℕ) (c d : By) (bs ds : Buckets) → are_literals (literal t) (cond b (fractional m c bs) (fractional m d ds)) ≡ false
pick-right true t m c d bs ds = refl
pick-right false t m c d bs ds = refl

are_literals-with : (n : ℕ) (r : Entries) (a b : Expression) → are_literals (with_entries n r a) (with_entries n r b) ≡ are_literals a b
are_literals-with n r (literal t) (literal u) = refl
are_literals-with n r (literal t) (list es) = refl
are_literals-with n r (literal t) (operation o es) = refl
are_literals-with n r (literal t) (fractional m b bs) = pick-right (m == n) t m b (by_with_entries n r b) (literal_buckets r) (buckets_with_entries n r bs)
are_literals-with n r (list es) b = refl
are_literals-with n r (operation o es) b = refl
are_literals-with n r (fractional m c bs) b = pick-left (m == n) m c (by_with_entries n r c) (literal_buckets r) (buckets_with_entries n r bs) (with_entries n r b)

pick-formed : (b : Bool) (k : ℕ) (r : Entries) (m : ℕ) (c d : By) (bs ds : Buckets) → are_small r ≡ true → (m == k) ≡ true → by_is_formed (suc k) c ≡ true → by_is_formed (suc k) d ≡ true
    → buckets_are_formed (suc k + sites_in_by d) ds ≡ true → is_formed k (cond b (fractional m c (literal_buckets r)) (fractional m d ds)) ≡ true
pick-formed true k r m c d bs ds small e x y z = both (m == k) _ e (both (by_is_formed (suc k) c) _ x (literal-formed (suc k + sites_in_by c) r small))
pick-formed false k r m c d bs ds small e x y z = both (m == k) _ e (both (by_is_formed (suc k) d) _ y z)

mutual
  pub is_formed-with : (k n : ℕ) (r : Entries) (e : Expression) → are_small r ≡ true → is_literal_at n (preorder e) ≡ true → is_formed k e ≡ true → is_formed k (with_entries n r e) ≡ true
  is_formed-with k n r (literal t) s l h = h
  is_formed-with k n r (list es) s l h = are_formed-with k n r es s l h
  is_formed-with k n r (operation o es) s l h =
      both (takes o (expression_count (all_with_entries n r es))) _ (ap (takes o) (expression_count-with n r es) ∙ left (takes o (expression_count es)) _ h) (are_formed-with k n r es s l (right (takes o (expression_count es)) _ h))
  is_formed-with k n r (fractional m b bs) s l h =
      let rest = right (m == k) _ h in
      let inner = right (not (m == n) || is_some (entries_of bs)) _ l in
      let in-by = literal-left n (preorder_in_by b) (preorder_in_buckets bs) inner in
      pick-formed (m == n) k r m b (by_with_entries n r b) bs (buckets_with_entries n r bs) s (left (m == k) _ h) (left (by_is_formed (suc k) b) _ rest)
      (by_is_formed-with (suc k) n r b s in-by (left (by_is_formed (suc k) b) _ rest))
      (rw (sites_in_by-with n r b in-by) (buckets_are_formed-with (suc k + sites_in_by b) n r bs s (literal-right n (preorder_in_by b) (preorder_in_buckets bs) inner) (right (by_is_formed (suc k) b) _ rest)))

  are_formed-with : (k n : ℕ) (r : Entries) (es : Expressions) → are_small r ≡ true → is_literal_at n (preorder_in es) ≡ true → are_formed k es ≡ true → are_formed k (all_with_entries n r es) ≡ true
  are_formed-with k n r no_expressions s l h = refl
  are_formed-with k n r (expression e es) s l h =
      let here = literal-left n (preorder e) (preorder_in es) l in
      both (is_formed k (with_entries n r e)) _ (is_formed-with k n r e s here (left (is_formed k e) _ h))
      (rw (sites-with n r e here) (are_formed-with (k + sites e) n r es s (literal-right n (preorder e) (preorder_in es) l) (right (is_formed k e) _ h)))

  pub by_is_formed-with : (k n : ℕ) (r : Entries) (b : By) → are_small r ≡ true → is_literal_at n (preorder_in_by b) ≡ true → by_is_formed k b ≡ true → by_is_formed k (by_with_entries n r b) ≡ true
  by_is_formed-with k n r no_by s l h = refl
  by_is_formed-with k n r (by e) s l h =
      both (not (is_list (with_entries n r e))) _ (ap not (is_list-with n r e) ∙ left (not (is_list e)) _ h) (is_formed-with k n r e s l (right (not (is_list e)) _ h))

  buckets_are_formed-with : (k n : ℕ) (r : Entries) (bs : Buckets) → are_small r ≡ true → is_literal_at n (preorder_in_buckets bs) ≡ true → buckets_are_formed k bs ≡ true
      → buckets_are_formed k (buckets_with_entries n r bs) ≡ true
  buckets_are_formed-with k n r no_buckets s l h = refl
  buckets_are_formed-with k n r (bucket b bs) s l h =
      let here = literal-left n (preorder_in_bucket b) (preorder_in_buckets bs) l in
      both (bucket_is_formed k (bucket_with_entries n r b)) _ (bucket_is_formed-with k n r b s here (left (bucket_is_formed k b) _ h))
      (rw (sites_in_bucket-with n r b here) (buckets_are_formed-with (k + sites_in_bucket b) n r bs s (literal-right n (preorder_in_bucket b) (preorder_in_buckets bs) l) (right (bucket_is_formed k b) _ h)))

  bucket_is_formed-with : (k n : ℕ) (r : Entries) (b : Bucket) → are_small r ≡ true → is_literal_at n (preorder_in_bucket b) ≡ true → bucket_is_formed k b ≡ true → bucket_is_formed k (bucket_with_entries n r b) ≡ true
  bucket_is_formed-with k n r (literal_bucket name weight) s l h = h
  bucket_is_formed-with k n r (computed_bucket name weight) s l h =
      let parts = right (not (are_literals name weight)) _ h in
      let here = literal-left n (preorder name) (preorder weight) l in
      both (not (are_literals (with_entries n r name) (with_entries n r weight))) _ (ap not (are_literals-with n r name weight) ∙ left (not (are_literals name weight)) _ h)
      (both (is_formed k (with_entries n r name)) _ (is_formed-with k n r name s here (left (is_formed k name) _ parts))
      (rw (sites-with n r name here) (is_formed-with (k + sites name) n r weight s (literal-right n (preorder name) (preorder weight) l) (right (is_formed k name) _ parts))))

-- ---- it stays as large

literal-size : (r : Entries) → are_small r ≡ true → buckets_size (buckets_written (literal_buckets r)) ≡ nothing
unfolding are_small
literal-size [] h = refl
literal-size (e ∷ es) h = rw (left (nat_lt e.1 (2 ^ 31)) _ h) (ap (beside nothing) (literal-size es (right (nat_lt e.1 (2 ^ 31)) _ h)))

entries-size : (k : ℕ) (bs : Buckets) → is_some (entries_of bs) ≡ true → buckets_are_formed k bs ≡ true → buckets_size (buckets_written bs) ≡ nothing
entries-size k no_buckets s h = refl
entries-size k (bucket (literal_bucket name weight) bs) s h =
    rw (left (nat_lt weight (2 ^ 31)) _ h) (ap (beside nothing) (entries-size (k + 0) bs (map-some _ (entries_of bs) s) (right (nat_lt weight (2 ^ 31)) _ h)))
entries-size k (bucket (computed_bucket name weight) bs) s h = cc

-- the bucketing expression is counted beside the buckets
by-size : (k : ℕ) (b : By) (xs ys : Items) → by_is_formed k b ≡ true → buckets_size xs ≡ buckets_size ys → buckets_size (by_written b xs) ≡ buckets_size (by_written b ys)
by-size k no_by xs ys h e = e
by-size k (by e) xs ys h same =
    let plain = written-no_list k e (left (not (is_list e)) _ h) (right (not (is_list e)) _ h) in
    buckets_size-other (written e) xs plain ∙ (ap (beside (expression_size (written e))) same ∙ sym (buckets_size-other (written e) ys plain))

pick-same : (b : Bool) (k : ℕ) (r : Entries) (m : ℕ) (c d : By) (bs ds : Buckets) → are_small r ≡ true → (not b || is_some (entries_of bs)) ≡ true → by_is_formed (suc k) c ≡ true
    → buckets_are_formed (suc k + sites_in_by c) bs ≡ true → buckets_size (by_written d (buckets_written ds)) ≡ buckets_size (by_written c (buckets_written bs))
    → expression_size (written (cond b (fractional m c (literal_buckets r)) (fractional m d ds))) ≡ expression_size (written (fractional m c bs))
pick-same true k r m c d bs ds small some x y same =
    fractional-size m c (literal_buckets r) _ (by-size (suc k) c _ (buckets_written bs) x (literal-size r small ∙ sym (entries-size (suc k + sites_in_by c) bs some y))) ∙ sym (fractional-size m c bs _ refl)
pick-same false k r m c d bs ds small some x y same = fractional-size m d ds _ same ∙ sym (fractional-size m c bs _ refl)

operation-same : (o : Operator) (xs ys : Expressions) → expressions_size (all_written xs) ≡ expressions_size (all_written ys) → expression_size (written (operation o xs)) ≡ expression_size (written (operation o ys))
operation-same o xs ys e = rw (is_fractional-operator_name o) (ap (λ s. around (around s)) e)

pub computed-same : (a b x y : Expression) (rest : Items) (s : Size) → are_literals x y ≡ false → are_literals a b ≡ false → expression_size (written a) ≡ expression_size (written x)
    → expression_size (written b) ≡ expression_size (written y) → buckets_size rest ≡ s
    → buckets_size (item (bucket_written (computed_bucket a b)) rest) ≡ beside (around (beside (expression_size (written x)) (beside (expression_size (written y)) nothing))) s
computed-same a b x y rest s p q e f g = rw (entry_of-computed a b q) (ap₂ beside (ap around (ap₂ beside e (ap (λ z. beside z nothing) f))) g)

mutual
  pub size-with : (k n : ℕ) (r : Entries) (e : Expression) → are_small r ≡ true → is_literal_at n (preorder e) ≡ true → is_formed k e ≡ true → expression_size (written (with_entries n r e)) ≡ expression_size (written e)
  size-with k n r (literal t) s l h = refl
  size-with k n r (list es) s l h = ap around (sizes-with k n r es s l h)
  size-with k n r (operation o es) s l h = operation-same o (all_with_entries n r es) es (sizes-with k n r es s l (right (takes o (expression_count es)) _ h))
  size-with k n r (fractional m no_by bs) s l h =
      let rest = right (m == k) _ h in
      let inner = right (not (m == n) || is_some (entries_of bs)) _ l in
      pick-same (m == n) k r m no_by no_by bs (buckets_with_entries n r bs) s (left (not (m == n) || is_some (entries_of bs)) _ l) refl rest (buckets-size-with (suc k + 0) n r bs s inner rest)
  size-with k n r (fractional m (by e) bs) s l h =
      let rest = right (m == k) _ h in
      let formed = left (by_is_formed (suc k) (by e)) _ rest in
      let inner = right (not (m == n) || is_some (entries_of bs)) _ l in
      let in-by = literal-left n (preorder e) (preorder_in_buckets bs) inner in
      let in-buckets = literal-right n (preorder e) (preorder_in_buckets bs) inner in
      let after = by_is_formed-with (suc k) n r (by e) s in-by formed in
      let plain = written-no_list (suc k) e (left (not (is_list e)) _ formed) (right (not (is_list e)) _ formed) in
      let still = written-no_list (suc k) (with_entries n r e) (left (not (is_list (with_entries n r e))) _ after) (right (not (is_list (with_entries n r e))) _ after) in
      pick-same (m == n) k r m (by e) (by (with_entries n r e)) bs (buckets_with_entries n r bs) s (left (not (m == n) || is_some (entries_of bs)) _ l) formed (right (by_is_formed (suc k) (by e)) _ rest)
      (buckets_size-other (written (with_entries n r e)) _ still
      ∙ (ap₂ beside (size-with (suc k) n r e s in-by (right (not (is_list e)) _ formed)) (buckets-size-with (suc k + sites e) n r bs s in-buckets (right (by_is_formed (suc k) (by e)) _ rest))
      ∙ sym (buckets_size-other (written e) _ plain)))

  sizes-with : (k n : ℕ) (r : Entries) (es : Expressions) → are_small r ≡ true → is_literal_at n (preorder_in es) ≡ true → are_formed k es ≡ true → expressions_size (all_written (all_with_entries n r es)) ≡ expressions_size (all_written es)
  sizes-with k n r no_expressions s l h = refl
  sizes-with k n r (expression e es) s l h =
      ap₂ beside (size-with k n r e s (literal-left n (preorder e) (preorder_in es) l) (left (is_formed k e) _ h))
      (sizes-with (k + sites e) n r es s (literal-right n (preorder e) (preorder_in es) l) (right (is_formed k e) _ h))

  buckets-size-with : (k n : ℕ) (r : Entries) (bs : Buckets) → are_small r ≡ true → is_literal_at n (preorder_in_buckets bs) ≡ true → buckets_are_formed k bs ≡ true
      → buckets_size (buckets_written (buckets_with_entries n r bs)) ≡ buckets_size (buckets_written bs)
  buckets-size-with k n r no_buckets s l h = refl
  buckets-size-with k n r (bucket (literal_bucket name weight) bs) s l h =
      ap (beside (bucket_size (item (text name) (item (whole (pos weight)) no_items)))) (buckets-size-with (k + 0) n r bs s l (right (nat_lt weight (2 ^ 31)) _ h))
  buckets-size-with k n r (bucket (computed_bucket name weight) bs) s l h =
      let formed = left (bucket_is_formed k (computed_bucket name weight)) _ h in
      let parts = right (not (are_literals name weight)) _ formed in
      let other = not-true _ (left (not (are_literals name weight)) _ formed) in
      let here = literal-left n (preorder name ++ preorder weight) (preorder_in_buckets bs) l in
      let rest = buckets-size-with (k + (sites name + sites weight)) n r bs s (literal-right n (preorder name ++ preorder weight) (preorder_in_buckets bs) l) (right (bucket_is_formed k (computed_bucket name weight)) _ h) in
      computed-same (with_entries n r name) (with_entries n r weight) name weight (buckets_written (buckets_with_entries n r bs)) _ other (are_literals-with n r name weight ∙ other)
      (size-with k n r name s (literal-left n (preorder name) (preorder weight) here) (left (is_formed k name) _ parts))
      (size-with (k + sites name) n r weight s (literal-right n (preorder name) (preorder weight) here) (right (is_formed k name) _ parts)) rest
      ∙ sym (computed-same name weight name weight (buckets_written bs) _ other other refl refl refl)

-- ---- the program's lists, one by one

pub all_with_entries-map : (n : ℕ) (r : Entries) (ns : List Node) → all_with_entries n r (nodes_view ns) ≡ expressions_of (map (λ e. with_entries n r (node_view e)) ns)
all_with_entries-map n r [] = refl
all_with_entries-map n r (e ∷ es) = ap (expression (with_entries n r (node_view e))) (all_with_entries-map n r es)

pub buckets_with_entries-map : (n : ℕ) (r : Entries) (bs : List (BucketOf Node)) → buckets_with_entries n r (buckets_view bs) ≡ buckets_of (map (λ b. bucket_with_entries n r (bucket_view b)) bs)
buckets_with_entries-map n r [] = refl
buckets_with_entries-map n r (b ∷ bs) = ap (bucket (bucket_with_entries n r (bucket_view b))) (buckets_with_entries-map n r bs)

abbrev pub literal_of : List ℕ × ℕ → Bucket
literal_of e = literal_bucket e.0 e.1

pub literal_buckets-map : (r : Entries) → literal_buckets r ≡ buckets_of (map literal_of r)
literal_buckets-map [] = refl
literal_buckets-map (e ∷ es) = ap (bucket (literal_bucket e.0 e.1)) (literal_buckets-map es)

lighter : (a b : ℕ) → a + b < 2 ^ 31 → nat_lt a (2 ^ 31) ≡ true
lighter a b h = grind (arith, common_steps, h)

-- the weights of a rule are small
pub small-total : (r : Entries) → total_weight r < 2 ^ 31 → are_small r ≡ true
unfolding are_small
small-total [] h = refl
small-total (e ∷ es) h =
    let split : total_weight (e ∷ es) ≡ e.1 + total_weight es = sum_by-cons (λ (x : List ℕ × ℕ). x.1) e es in
    both (nat_lt e.1 (2 ^ 31)) _ (lighter e.1 (total_weight es) (omega (arith, split, h))) (small-total es (omega (arith, split, h)))

-- what is replaced stays well formed
pub is_well_formed-with : (n : ℕ) (r : Entries) (e : Expression) → are_small r ≡ true → is_literal_at n (preorder e) ≡ true → is_well_formed e ≡ true → is_well_formed (with_entries n r e) ≡ true
is_well_formed-with n r e s l w =
    let formed = left (is_formed 0 e) _ w in
    both (is_formed 0 (with_entries n r e)) _ (is_formed-with 0 n r e s l formed) (ap (λ x. not (is_over x)) (size-with 0 n r e s l formed) ∙ right (is_formed 0 e) _ w)

-- ---- here, and elsewhere

differs : (m n : ℕ) → (m ≡ n → ⊥) → (m == n) ≡ false
differs m n h = grind (arith, common_steps, h)

pub with_entries-here : (n : ℕ) (r : Entries) (m : ℕ) (b : By) (bs : Buckets) → m ≡ n → with_entries n r (fractional m b bs) ≡ fractional m b (literal_buckets r)
with_entries-here n r m b bs e = rw (eq-eqb m n e) refl

pub with_entries-elsewhere : (n : ℕ) (r : Entries) (m : ℕ) (b : By) (bs : Buckets) → (m ≡ n → ⊥) → with_entries n r (fractional m b bs) ≡ fractional m (by_with_entries n r b) (buckets_with_entries n r bs)
with_entries-elsewhere n r m b bs e = rw (differs m n e) refl

pub if_entries-some : {A : Type 0} (o : Option Entries) (x : A) → is_some o ≡ true → if_entries o (λ _. x) ≡ Ok x
if_entries-some None x h = cc
if_entries-some (Some r) x h = refl

pub if_entries-none : {A : Type 0} (o : Option Entries) (x : A) → is_some o ≡ false → if_entries o (λ _. x) ≡ Err Computed
if_entries-none None x h = refl
if_entries-none (Some r) x h = cc
