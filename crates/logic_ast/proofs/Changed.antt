-- What is found by number after the entries of a site were changed.
use Rattle.std.proofs.Common.{◌≡◌, ℕ, Bool, true, false, not, ◌||◌, ◌==◌, cond, ◌∷◌, Option, Some, None, option_map, Result, Ok, Err, refl, sym, ap, ap₂, ◌∙◌, arith}
use Rattle.std.specs.Option.{is_some}
use Rattle.std.proofs.lemmas.Grind.{common_steps}
use Rattle.bucket_core.specs.Rule.{Entries}
use Rattle.logic_ast.specs.Expression.{Expression, literal, list, operation, fractional, Expressions, no_expressions, expression, By, no_by, by, Buckets, no_buckets, bucket, Bucket, literal_bucket, computed_bucket}
use Rattle.logic_ast.specs.Formed.{is_formed}
use Rattle.logic_ast.specs.Found.{or_else, found, found_in, found_in_by, found_in_buckets, found_in_bucket}
use Rattle.logic_ast.specs.Sites.{Site, preorder, preorder_in, preorder_in_by, preorder_in_buckets, preorder_in_bucket, site_at, entries_of, literal_buckets, with_entries, all_with_entries, by_with_entries, buckets_with_entries, bucket_with_entries, if_site, if_entries, entries_at}
use Rattle.logic_ast.specs.Writing.{by_text, by_text_at}
use Rattle.logic_ast.specs.declared.fault.LogicFault.{LogicFault}
use Rattle.logic_ast.specs.declared.fault.LogicFault.TheVariants.{NoSite}
use Rattle.logic_ast.proofs.Numbered.{is_literal_at, literal-left, literal-right}
use Rattle.logic_ast.proofs.Places.{found-at}
use Rattle.logic_ast.proofs.Replaced.{entries_of-literal, map-some}
use Rattle.logic_ast.proofs.Written.{left, right}

-- ---- the site itself

abbrev changed : Entries → Site → Site
changed r s = record { number = s.number; bucketing = s.bucketing; buckets = literal_buckets r }

or-both : (r : Entries) (x y : Option Site) → or_else (option_map (changed r) x) (option_map (changed r) y) ≡ option_map (changed r) (or_else x y)
or-both r None y = refl
or-both r (Some s) y = refl

or-changed : (r : Entries) (x y v w : Option Site) → v ≡ option_map (changed r) x → w ≡ option_map (changed r) y → or_else v w ≡ option_map (changed r) (or_else x y)
or-changed r x y v w e f = ap₂ or_else e f ∙ or-both r x y

pick-changed : (b : Bool) (n : ℕ) (r : Entries) (m : ℕ) (c d : By) (bs ds : Buckets) (o : Option Site) → (m == n) ≡ b → or_else (found_in_by n d) (found_in_buckets n ds) ≡ option_map (changed r) o
    → found n (cond b (fractional m c (literal_buckets r)) (fractional m d ds)) ≡ option_map (changed r) (cond b (Some (record { number = m; bucketing = c; buckets = bs })) o)
pick-changed true n r m c d bs ds o e h = rw e refl
pick-changed false n r m c d bs ds o e h = rw e h

mutual
  pub found-changed : (n : ℕ) (r : Entries) (e : Expression) → found n (with_entries n r e) ≡ option_map (changed r) (found n e)
  found-changed n r (literal t) = refl
  found-changed n r (list es) = found_in-changed n r es
  found-changed n r (operation o es) = found_in-changed n r es
  found-changed n r (fractional m b bs) =
      pick-changed (m == n) n r m b (by_with_entries n r b) bs (buckets_with_entries n r bs) (or_else (found_in_by n b) (found_in_buckets n bs)) refl
      (or-changed r (found_in_by n b) (found_in_buckets n bs) _ _ (found_in_by-changed n r b) (found_in_buckets-changed n r bs))

  found_in-changed : (n : ℕ) (r : Entries) (es : Expressions) → found_in n (all_with_entries n r es) ≡ option_map (changed r) (found_in n es)
  found_in-changed n r no_expressions = refl
  found_in-changed n r (expression e es) = or-changed r (found n e) (found_in n es) _ _ (found-changed n r e) (found_in-changed n r es)

  found_in_by-changed : (n : ℕ) (r : Entries) (b : By) → found_in_by n (by_with_entries n r b) ≡ option_map (changed r) (found_in_by n b)
  found_in_by-changed n r no_by = refl
  found_in_by-changed n r (by e) = found-changed n r e

  found_in_buckets-changed : (n : ℕ) (r : Entries) (bs : Buckets) → found_in_buckets n (buckets_with_entries n r bs) ≡ option_map (changed r) (found_in_buckets n bs)
  found_in_buckets-changed n r no_buckets = refl
  found_in_buckets-changed n r (bucket b bs) = or-changed r (found_in_bucket n b) (found_in_buckets n bs) _ _ (found_in_bucket-changed n r b) (found_in_buckets-changed n r bs)

  found_in_bucket-changed : (n : ℕ) (r : Entries) (b : Bucket) → found_in_bucket n (bucket_with_entries n r b) ≡ option_map (changed r) (found_in_bucket n b)
  found_in_bucket-changed n r (literal_bucket name weight) = refl
  found_in_bucket-changed n r (computed_bucket name weight) = or-changed r (found n name) (found n weight) _ _ (found-changed n r name) (found-changed n r weight)

-- ---- another site: whether its buckets are literal, and its entries

abbrev buckets_at : Option Site → Option (Option Entries)
buckets_at o = option_map (λ s. entries_of s.buckets) o

entries_of-with : (n : ℕ) (r : Entries) (bs : Buckets) → entries_of (buckets_with_entries n r bs) ≡ entries_of bs
entries_of-with n r no_buckets = refl
entries_of-with n r (bucket (literal_bucket name weight) bs) = ap (option_map (λ es. (name, weight) ∷ es)) (entries_of-with n r bs)
entries_of-with n r (bucket (computed_bucket name weight) bs) = refl

none-found : (m : ℕ) (bs : Buckets) → is_some (entries_of bs) ≡ true → found_in_buckets m bs ≡ None
none-found m no_buckets h = refl
none-found m (bucket (literal_bucket name weight) bs) h = none-found m bs (map-some _ (entries_of bs) h)
none-found m (bucket (computed_bucket name weight) bs) h = cc

or-kept : (x y v w : Option Site) → buckets_at v ≡ buckets_at x → buckets_at w ≡ buckets_at y → buckets_at (or_else v w) ≡ buckets_at (or_else x y)
or-kept None y None w e f = f
or-kept None y (Some s) w e f = cc
or-kept (Some t) y None w e f = cc
or-kept (Some t) y (Some s) w e f = e

unequal : (k m n : ℕ) → (k == n) ≡ true → (m ≡ n → ⊥) → (k == m) ≡ false
unequal k m n e h = grind (arith, common_steps, e, h)

pick-here : (a : Bool) (k m : ℕ) (c d : By) (bs ds : Buckets) (x y : Option Site) → (k == m) ≡ a → entries_of ds ≡ entries_of bs → buckets_at x ≡ buckets_at y
    → buckets_at (cond a (Some (record { number = k; bucketing = d; buckets = ds })) x) ≡ buckets_at (cond a (Some (record { number = k; bucketing = c; buckets = bs })) y)
pick-here true k m c d bs ds x y e same h = ap Some same
pick-here false k m c d bs ds x y e same h = h

pick-kept : (b : Bool) (m n : ℕ) (r : Entries) (k : ℕ) (c d : By) (bs ds : Buckets) → (k == n) ≡ b → (m ≡ n → ⊥) → (not b || is_some (entries_of bs)) ≡ true → entries_of ds ≡ entries_of bs
    → buckets_at (or_else (found_in_by m d) (found_in_buckets m ds)) ≡ buckets_at (or_else (found_in_by m c) (found_in_buckets m bs))
    → buckets_at (found m (cond b (fractional k c (literal_buckets r)) (fractional k d ds))) ≡ buckets_at (found m (fractional k c bs))
pick-kept true m n r k c d bs ds e other some same h =
    rw (unequal k m n e other, none-found m (literal_buckets r) (ap is_some (entries_of-literal r)), none-found m bs some) refl
pick-kept false m n r k c d bs ds e other some same h =
    pick-here (k == m) k m c d bs ds (or_else (found_in_by m d) (found_in_buckets m ds)) (or_else (found_in_by m c) (found_in_buckets m bs)) refl same h

mutual
  pub found-kept : (m n : ℕ) (r : Entries) (e : Expression) → (m ≡ n → ⊥) → is_literal_at n (preorder e) ≡ true → buckets_at (found m (with_entries n r e)) ≡ buckets_at (found m e)
  found-kept m n r (literal t) o l = refl
  found-kept m n r (list es) o l = found_in-kept m n r es o l
  found-kept m n r (operation p es) o l = found_in-kept m n r es o l
  found-kept m n r (fractional k b bs) o l =
      let inner = right (not (k == n) || is_some (entries_of bs)) _ l in
      pick-kept (k == n) m n r k b (by_with_entries n r b) bs (buckets_with_entries n r bs) refl o (left (not (k == n) || is_some (entries_of bs)) _ l) (entries_of-with n r bs)
      (or-kept (found_in_by m b) (found_in_buckets m bs) _ _ (found_in_by-kept m n r b o (literal-left n (preorder_in_by b) (preorder_in_buckets bs) inner))
      (found_in_buckets-kept m n r bs o (literal-right n (preorder_in_by b) (preorder_in_buckets bs) inner)))

  found_in-kept : (m n : ℕ) (r : Entries) (es : Expressions) → (m ≡ n → ⊥) → is_literal_at n (preorder_in es) ≡ true → buckets_at (found_in m (all_with_entries n r es)) ≡ buckets_at (found_in m es)
  found_in-kept m n r no_expressions o l = refl
  found_in-kept m n r (expression e es) o l =
      or-kept (found m e) (found_in m es) _ _ (found-kept m n r e o (literal-left n (preorder e) (preorder_in es) l)) (found_in-kept m n r es o (literal-right n (preorder e) (preorder_in es) l))

  found_in_by-kept : (m n : ℕ) (r : Entries) (b : By) → (m ≡ n → ⊥) → is_literal_at n (preorder_in_by b) ≡ true → buckets_at (found_in_by m (by_with_entries n r b)) ≡ buckets_at (found_in_by m b)
  found_in_by-kept m n r no_by o l = refl
  found_in_by-kept m n r (by e) o l = found-kept m n r e o l

  found_in_buckets-kept : (m n : ℕ) (r : Entries) (bs : Buckets) → (m ≡ n → ⊥) → is_literal_at n (preorder_in_buckets bs) ≡ true
      → buckets_at (found_in_buckets m (buckets_with_entries n r bs)) ≡ buckets_at (found_in_buckets m bs)
  found_in_buckets-kept m n r no_buckets o l = refl
  found_in_buckets-kept m n r (bucket b bs) o l =
      or-kept (found_in_bucket m b) (found_in_buckets m bs) _ _ (found_in_bucket-kept m n r b o (literal-left n (preorder_in_bucket b) (preorder_in_buckets bs) l))
      (found_in_buckets-kept m n r bs o (literal-right n (preorder_in_bucket b) (preorder_in_buckets bs) l))

  found_in_bucket-kept : (m n : ℕ) (r : Entries) (b : Bucket) → (m ≡ n → ⊥) → is_literal_at n (preorder_in_bucket b) ≡ true → buckets_at (found_in_bucket m (bucket_with_entries n r b)) ≡ buckets_at (found_in_bucket m b)
  found_in_bucket-kept m n r (literal_bucket name weight) o l = refl
  found_in_bucket-kept m n r (computed_bucket name weight) o l =
      or-kept (found m name) (found m weight) _ _ (found-kept m n r name o (literal-left n (preorder name) (preorder weight) l)) (found-kept m n r weight o (literal-right n (preorder name) (preorder weight) l))

-- ---- as the calls say it

entries-from : Option (Option Entries) → Result Entries LogicFault
entries-from None = Err NoSite
entries-from (Some o) = if_entries o (λ q. q)

from-site : (o : Option Site) → if_site o (λ s. if_entries (entries_of s.buckets) (λ q. q)) ≡ entries-from (buckets_at o)
unfolding entries-from
from-site None = refl
from-site (Some s) = refl

pub entries_at-changed : (n : ℕ) (r : Entries) (e : Expression) (s : Site) → is_formed 0 e ≡ true → is_formed 0 (with_entries n r e) ≡ true → site_at n e ≡ Some s → entries_at n (with_entries n r e) ≡ Ok r
unfolding entries-from
entries_at-changed n r e s f g h =
    let is : site_at n (with_entries n r e) ≡ Some (changed r s) = sym (found-at n (with_entries n r e) g) ∙ (found-changed n r e ∙ ap (option_map (changed r)) (found-at n e f ∙ h)) in
    ap (λ (o : Option Site). if_site o (λ x. if_entries (entries_of x.buckets) (λ q. q))) is ∙ ap (λ (o : Option Entries). if_entries o (λ q. q)) (entries_of-literal r)

same-by : (r : Entries) (o : Option Site) → if_site (option_map (changed r) o) (λ x. Ok (by_text x.bucketing)) ≡ if_site o (λ x. Ok (by_text x.bucketing))
same-by r None = refl
same-by r (Some s) = refl

pub by_text_at-changed : (n : ℕ) (r : Entries) (e : Expression) → is_formed 0 e ≡ true → is_formed 0 (with_entries n r e) ≡ true → by_text_at n (with_entries n r e) ≡ by_text_at n e
by_text_at-changed n r e f g =
    let is : site_at n (with_entries n r e) ≡ option_map (changed r) (site_at n e) = sym (found-at n (with_entries n r e) g) ∙ (found-changed n r e ∙ ap (option_map (changed r)) (found-at n e f)) in
    ap (λ (o : Option Site). if_site o (λ x. Ok (by_text x.bucketing))) is ∙ same-by r (site_at n e)

pub entries_at-kept : (m n : ℕ) (r : Entries) (e : Expression) → (m ≡ n → ⊥) → is_formed 0 e ≡ true → is_formed 0 (with_entries n r e) ≡ true → is_literal_at n (preorder e) ≡ true
    → entries_at m (with_entries n r e) ≡ entries_at m e
entries_at-kept m n r e o f g l =
    let is : buckets_at (site_at m (with_entries n r e)) ≡ buckets_at (site_at m e) =
    ap buckets_at (sym (found-at m (with_entries n r e) g)) ∙ (found-kept m n r e o l ∙ ap buckets_at (found-at m e f)) in
    from-site (site_at m (with_entries n r e)) ∙ (ap entries-from is ∙ sym (from-site (site_at m e)))
