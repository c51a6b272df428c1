-- In a written form the way to site n leads to the arguments of site n of the expression.
use Rattle.std.proofs.Common.{◌≡◌, ℕ, zero, suc, ◌+◌, true, List, [], ◌∷◌, ◌++◌, length, None, Some, ◌⊎◌, inl, inr, codes, cond, refl, ap, ◌∙◌, subst, arith}
use Rattle.std.specs.Prelude.{slice_get}
use Rattle.std.proofs.lemmas.Bool.{and_parts}
use Rattle.std.proofs.lemmas.List.{length-append}
use Rattle.std.proofs.lemmas.Slice.Eq.{bytes_eq-Decides}
use Rattle.std.specs.Str.{bytes_eq}
use Rattle.flag_text.specs.Shape as shape
use Rattle.flag_text.specs.Shape.{Shape, text, whole, object, Items, no_items, item, no_members, member}
use Rattle.logic_ast.specs.Expression.{Expression, literal, list, operation, fractional, Expressions, no_expressions, expression, By, no_by, by, Buckets, no_buckets, bucket, Bucket, literal_bucket, computed_bucket}
use Rattle.logic_ast.specs.Formed.{is_formed, are_formed, by_is_formed, buckets_are_formed, bucket_is_formed}
use Rattle.logic_ast.specs.Operator.{operator_name}
use Rattle.logic_ast.specs.Sites.{Site, sites, sites_in_by, sites_in_bucket, preorder, preorder_in, preorder_in_by, preorder_in_buckets, preorder_in_bucket}
use Rattle.logic_ast.specs.Writing.{written, all_written, by_written, buckets_written, bucket_written}
use Rattle.logic_ast.proofs.Operators.{is_fractional-operator_name, is_fractional-fractional}
use Rattle.logic_ast.proofs.Numbered.{length-preorder}
use Rattle.text_spans.specs.Path.{Step, name, index}
use Rattle.kept_document.specs.Agreement.{arguments_of, form_at, on_inner}
use Rattle.kept_document.specs.Following.{item_at, or_nothing}
use Rattle.kept_document.specs.Seeking.{Sought, here, later, buckets_from, under, or_next, of_operation, find_site, find_in_items}
use Rattle.kept_document.proofs.Counted.{counted, bucket_counted}

-- an item of two lists is one of the first, or one of the second
split : {A : Type 0} (xs ys : List A) (n : ℕ) (a : A) → slice_get (xs ++ ys) n ≡ Some a → (slice_get xs n ≡ Some a) ⊎ ((m : ℕ) × (n ≡ length xs + m) × (slice_get ys m ≡ Some a))
split [] ys n a e = let z : n ≡ 0 + n = omega arith in inr (n, z, e)
split (x ∷ xs) ys zero a e = inl e
split (x ∷ xs) ys (suc n) a e = more (split xs ys n a e)
  where
    more : (slice_get xs n ≡ Some a) ⊎ ((m : ℕ) × (n ≡ length xs + m) × (slice_get ys m ≡ Some a)) → (slice_get xs n ≡ Some a) ⊎ ((m : ℕ) × (suc n ≡ suc (length xs) + m) × (slice_get ys m ≡ Some a))
    more (inl h) = inl h
    more (inr (m, is, h)) = let z : suc n ≡ suc (length xs) + m = omega (arith, is) in inr (m, z, h)

-- ---- where what was sought leads

abbrev front_of : Site → ℕ
front_of s = buckets_from (arguments_of s)

abbrev Leads : Sought → Shape → Site → Type 0
Leads f t s = (way : List Step) × (f ≡ here way (front_of s)) × (form_at way t ≡ Some (shape.list (arguments_of s)))

-- to the item at an index from i on
abbrev LeadsIn : Sought → ℕ → Items → Site → Type 0
LeadsIn f i ts s = (j : ℕ) × (way : List Step) × (u : Shape) × (f ≡ here (index (i + j) ∷ way) (front_of s)) × (item_at j ts ≡ Some u) × (form_at way u ≡ Some (shape.list (arguments_of s)))

in_list : (f : Sought) (ts : Items) (s : Site) → LeadsIn f 0 ts s → Leads f (shape.list ts) s
in_list f ts s (j, way, u, e, got, leads) =
    let z : 0 + j ≡ j = omega arith in
    (index (0 + j) ∷ way, e, ap (λ k. on_inner (or_nothing (item_at k ts)) (λ v. form_at way v)) z ∙ ap (λ o. on_inner (or_nothing o) (λ v. form_at way v)) got ∙ leads)

-- the operation round the list
round : (k : List ℕ) (f g : Sought) (ts : Items) (s : Site) → g ≡ under (name k) f → Leads f (shape.list ts) s → Leads g (object (member k (shape.list ts) no_members)) s
round k f g ts s is (way, e, leads) =
    let same : bytes_eq k k ≡ true = (bytes_eq-Decides k k).1 refl in
    (name k ∷ way, is ∙ ap (under (name k)) e, ap (λ b. on_inner (or_nothing (cond b (Some (shape.list ts)) None)) (λ v. form_at way v)) same ∙ leads)

first_found : (i n : ℕ) (t : Shape) (ts : Items) (s : Site) → Leads (find_site n t) t s → LeadsIn (find_in_items i n (item t ts)) i (item t ts) s
first_found i n t ts s (way, e, leads) =
    let z : i ≡ i + 0 = omega arith in
    (0, way, t, ap (λ f. or_next (under (index i) f) (λ m. find_in_items (suc i) m ts)) e ∙ ap (λ k. here (index k ∷ way) (front_of s)) z, refl, leads)

later_found : (i m : ℕ) (f : Sought) (t : Shape) (ts : Items) (s : Site) → f ≡ later m → LeadsIn (find_in_items (suc i) m ts) (suc i) ts s → LeadsIn (or_next (under (index i) f) (λ m. find_in_items (suc i) m ts)) i (item t ts) s
later_found i m f t ts s passed (j, way, u, e, got, leads) =
    let z : suc i + j ≡ i + suc j = omega arith in
    (suc j, way, u, ap (λ g. or_next (under (index i) g) (λ m. find_in_items (suc i) m ts)) passed ∙ e ∙ ap (λ k. here (index k ∷ way) (front_of s)) z, got, leads)

-- the next item, and those behind it
step_found : (i n a : ℕ) (xs ys : List Site) (t : Shape) (ts : Items) (s : Site) → length xs ≡ a → slice_get (xs ++ ys) n ≡ Some s → (slice_get xs n ≡ Some s → Leads (find_site n t) t s)
    → ((m : ℕ) → find_site (a + m) t ≡ later m) → ((m : ℕ) → slice_get ys m ≡ Some s → LeadsIn (find_in_items (suc i) m ts) (suc i) ts s) → LeadsIn (find_in_items i n (item t ts)) i (item t ts) s
step_found i n a xs ys t ts s long e one passed rest = by (split xs ys n s e)
  where
    by : (slice_get xs n ≡ Some s) ⊎ ((m : ℕ) × (n ≡ length xs + m) × (slice_get ys m ≡ Some s)) → LeadsIn (find_in_items i n (item t ts)) i (item t ts) s
    by (inl h) = first_found i n t ts s (one h)
    by (inr (m, is, h)) = later_found i m (find_site n t) t ts s (ap (λ k. find_site k t) (is ∙ ap (λ b. b + m) long) ∙ passed m) (rest m h)

length_in_bucket : (b : Bucket) → length (preorder_in_bucket b) ≡ sites_in_bucket b
length_in_bucket (literal_bucket x w) = refl
length_in_bucket (computed_bucket e w) = omega (arith, length-append (preorder e) (preorder w), length-preorder e, length-preorder w)

some_site : (a s : Site) → Some a ≡ Some s → a ≡ s
some_site a s e = cc

none_there : {P : Type 0} (n : ℕ) (s : Site) → slice_get [] n ≡ Some s → P
none_there n s e = cc

mutual
  pub sought : (e : Expression) (k n : ℕ) (s : Site) → is_formed k e ≡ true → slice_get (preorder e) n ≡ Some s → Leads (find_site n (written e)) (written e) s
  sought (literal t) k n s h e = none_there n s e
  sought (list es) k n s h e = in_list (find_in_items 0 n (all_written es)) (all_written es) s (all_sought es k 0 n s h e)
  sought (operation o es) k n s h e =
      let f = find_in_items 0 n (all_written es) in
      round (operator_name o) f (of_operation n (operator_name o) (all_written es) (λ m. find_in_items 0 m (all_written es))) (all_written es) s (rw (is_fractional-operator_name o) refl)
      (in_list f (all_written es) s (all_sought es k 0 n s (and_parts _ _ h).1 e))
  sought (fractional m b bs) k zero s h e =
      let ts = by_written b (buckets_written bs) in
      let is : record { number = m; bucketing = b; buckets = bs } ≡ s = some_site _ s e in
      subst (λ (z : Site). Leads (find_site zero (written (fractional m b bs))) (written (fractional m b bs)) z) is
      (round (codes "fractional") (here [] (buckets_from ts)) _ ts (record { number = m; bucketing = b; buckets = bs }) (rw is_fractional-fractional refl) ([], refl, refl))
  sought (fractional m b bs) k (suc n) s h e =
      let ts = by_written b (buckets_written bs) in
      let parts = and_parts _ _ (and_parts _ _ h).1 in
      let f = find_in_items 0 n ts in
      round (codes "fractional") f _ ts s (rw is_fractional-fractional refl)
      (in_list f ts s (by_sought b bs (suc k) n s parts.0 (λ i m g. buckets_sought bs (suc k + sites_in_by b) i m s parts.1 g) e))

  pub all_sought : (es : Expressions) (k i n : ℕ) (s : Site) → are_formed k es ≡ true → slice_get (preorder_in es) n ≡ Some s → LeadsIn (find_in_items i n (all_written es)) i (all_written es) s
  all_sought no_expressions k i n s h e = none_there n s e
  all_sought (expression x es) k i n s h e =
      let parts = and_parts _ _ h in
      step_found i n (sites x) (preorder x) (preorder_in es) (written x) (all_written es) s (length-preorder x) e (sought x k n s parts.0) (counted x k parts.0) (λ m g. all_sought es (k + sites x) (suc i) m s parts.1 g)

  pub by_sought : (b : By) (bs : Buckets) (k n : ℕ) (s : Site) → by_is_formed k b ≡ true → ((i m : ℕ) → slice_get (preorder_in_buckets bs) m ≡ Some s → LeadsIn (find_in_items i m (buckets_written bs)) i (buckets_written bs) s)
      → slice_get (preorder_in_by b ++ preorder_in_buckets bs) n ≡ Some s → LeadsIn (find_in_items 0 n (by_written b (buckets_written bs))) 0 (by_written b (buckets_written bs)) s
  by_sought no_by bs k n s h g e = g 0 n e
  by_sought (by x) bs k n s h g e =
      let formed = (and_parts _ _ h).1 in
      step_found 0 n (sites x) (preorder x) (preorder_in_buckets bs) (written x) (buckets_written bs) s (length-preorder x) e (sought x k n s formed) (counted x k formed) (λ m d. g 1 m d)

  pub buckets_sought : (bs : Buckets) (k i n : ℕ) (s : Site) → buckets_are_formed k bs ≡ true → slice_get (preorder_in_buckets bs) n ≡ Some s → LeadsIn (find_in_items i n (buckets_written bs)) i (buckets_written bs) s
  buckets_sought no_buckets k i n s h e = none_there n s e
  buckets_sought (bucket b bs) k i n s h e =
      let parts = and_parts _ _ h in
      step_found i n (sites_in_bucket b) (preorder_in_bucket b) (preorder_in_buckets bs) (bucket_written b) (buckets_written bs) s (length_in_bucket b) e (bucket_sought b k n s parts.0) (bucket_counted b k parts.0)
      (λ m g. buckets_sought bs (k + sites_in_bucket b) (suc i) m s parts.1 g)

  pub bucket_sought : (b : Bucket) (k n : ℕ) (s : Site) → bucket_is_formed k b ≡ true → slice_get (preorder_in_bucket b) n ≡ Some s → Leads (find_site n (bucket_written b)) (bucket_written b) s
  bucket_sought (literal_bucket x w) k n s h e = none_there n s e
  bucket_sought (computed_bucket x w) k n s h e =
      let parts = and_parts _ _ (and_parts _ _ h).1 in
      let ts = item (written w) no_items in
      in_list (find_in_items 0 n (item (written x) ts)) (item (written x) ts) s
      (step_found 0 n (sites x) (preorder x) (preorder w) (written x) ts s (length-preorder x) e (sought x k n s parts.0) (counted x k parts.0) (λ m g. first_found 1 m (written w) no_items s (sought w (k + sites x) m s parts.1 g)))
