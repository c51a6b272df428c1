-- Entries put in order one by one, seen by another name of their keys, and what is found among them.
use Rattle.std.proofs.Common.{◌≡◌, List, [], ◌∷◌, map, Bool, true, false, ◌||◌, cond, Option, Some, None, is_some, refl, sym, ap, ◌∙◌, subst}
use Rattle.std.specs.BTreeMap.{insert_entry, is_at}
use Rattle.std.specs.List.{All, AllByRecursion}
use Rattle.std.specs.List.Sorted.{IsStrictlySortedBy}
use Rattle.std.specs.Map.{keys_of, lookup}
use Rattle.std.specs.Ordering.{match_ordering, on}
use Rattle.std.specs.declared.cmp.Ordering.{Ordering}
use Rattle.std.specs.declared.cmp.Ordering.TheVariants.{Less, Equal, Greater}
use Rattle.std.proofs.lemmas.List.Elements.{All-cons, All-head, All-tail}

-- ---- keys of the program, each seen by f

module _ {K J : Type 0} (f : K → J) (R : J → J → Ordering) where
  above_seen : (p : J) (ks : List K) → AllByRecursion (λ y. R p (f y) ≡ Less) ks → AllByRecursion (λ q. R p q ≡ Less) (map f ks)
  above_seen p [] h = h
  above_seen p (k ∷ ks) h = (h.0, above_seen p ks h.1)

  sorted_seen : (ks : List K) → IsStrictlySortedBy (on f R) ks → IsStrictlySortedBy R (map f ks)
  unfolding IsStrictlySortedBy
  sorted_seen [] h = h
  sorted_seen (k ∷ ks) h = (above_seen (f k) ks h.0, sorted_seen ks h.1)

module _ {K J X : Type 0} (f : K → J) (R : J → J → Ordering) where
  abbrev pub seen : K × X → J × X
  seen e = (f e.0, e.1)

  insert-seen_at : (o : Ordering) (k : K) (v : X) (e : K × X) (es : List (K × X)) → map seen (insert_entry (on f R) es k v) ≡ insert_entry R (map seen es) (f k) v
      → map seen (match_ordering o ((k, v) ∷ e ∷ es) ((e.0, v) ∷ es) (e ∷ insert_entry (on f R) es k v))
      ≡ match_ordering o ((f k, v) ∷ seen e ∷ map seen es) ((f e.0, v) ∷ map seen es) (seen e ∷ insert_entry R (map seen es) (f k) v)
  insert-seen_at Less k v e es more = refl
  insert-seen_at Equal k v e es more = refl
  insert-seen_at Greater k v e es more = ap (λ xs. seen e ∷ xs) more

  pub insert-seen : (es : List (K × X)) (k : K) (v : X) → map seen (insert_entry (on f R) es k v) ≡ insert_entry R (map seen es) (f k) v
  insert-seen [] k v = refl
  insert-seen (e ∷ es) k v = insert-seen_at (R (f k) (f e.0)) k v e es (insert-seen es k v)

  pub lookup-seen : (k : K) (es : List (K × X)) → lookup (is_at (on f R k)) es ≡ lookup (is_at (R (f k))) (map seen es)
  lookup-seen k [] = refl
  lookup-seen k (e ∷ es) = ap (λ o. cond (is_at (R (f k)) (f e.0)) (Some e.1) o) (lookup-seen k es)

  keys-seen : (es : List (K × X)) → map f (keys_of es) ≡ keys_of (map seen es)
  keys-seen [] = refl
  keys-seen (e ∷ es) = ap (λ ks. f e.0 ∷ ks) (keys-seen es)

  pub rise_seen : (es : List (K × X)) → IsStrictlySortedBy (on f R) (keys_of es) → IsStrictlySortedBy R (keys_of (map seen es))
  rise_seen es h = subst (IsStrictlySortedBy R) (keys-seen es) (sorted_seen f R (keys_of es) h)

-- ---- what is found after one more

found-cond : {X : Type 0} (b : Bool) (x : X) (o : Option X) → is_some (cond b (Some x) o) ≡ (b || is_some o)
found-cond true x o = refl
found-cond false x o = refl

pub once_more : (b x : Bool) → (b || x) ≡ (b || (b || x))
once_more true x = refl
once_more false x = refl

pub turned : (a b x : Bool) → (a || (b || x)) ≡ (b || (a || x))
turned true true x = refl
turned true false x = refl
turned false true x = refl
turned false false x = refl

module _ {K X : Type 0} (R : K → K → Ordering) (exact : (x y : K) → R x y ≡ Equal → x ≡ y) (test : K → Bool) where
  found-insert_at : (o : Ordering) (k : K) (v : X) (e : K × X) (es : List (K × X)) → R k e.0 ≡ o
      → is_some (lookup test (insert_entry R es k v)) ≡ (test k || is_some (lookup test es))
      → is_some (lookup test (match_ordering o ((k, v) ∷ e ∷ es) ((e.0, v) ∷ es) (e ∷ insert_entry R es k v))) ≡ (test k || is_some (lookup test (e ∷ es)))
  found-insert_at Less k v e es is more = found-cond (test k) v (lookup test (e ∷ es))
  found-insert_at Equal k v e es is more =
      let rest = lookup test es in
      let b = test e.0 in
      found-cond b v rest ∙ (once_more b (is_some rest) ∙ (ap (λ q. test q || (b || is_some rest)) (sym (exact k e.0 is)) ∙ ap (λ x. test k || x) (sym (found-cond b e.1 rest))))
  found-insert_at Greater k v e es is more =
      let rest = lookup test es in
      let b = test e.0 in
      found-cond b e.1 (lookup test (insert_entry R es k v)) ∙ (ap (λ x. b || x) more ∙ (turned b (test k) (is_some rest) ∙ ap (λ x. test k || x) (sym (found-cond b e.1 rest))))

  pub found-insert : (es : List (K × X)) (k : K) (v : X) → is_some (lookup test (insert_entry R es k v)) ≡ (test k || is_some (lookup test es))
  found-insert [] k v = found-cond (test k) v None
  found-insert (e ∷ es) k v = found-insert_at (R k e.0) k v e es refl (found-insert es k v)

-- ---- what holds of each value

module _ {K X : Type 0} (R : K → K → Ordering) (P : X → Type 0) where
  all_insert_at : (o : Ordering) (k : K) (v : X) (e : K × X) (es : List (K × X)) → P v → All (λ e. P e.1) (e ∷ es) → All (λ e. P e.1) (insert_entry R es k v)
      → All (λ e. P e.1) (match_ordering o ((k, v) ∷ e ∷ es) ((e.0, v) ∷ es) (e ∷ insert_entry R es k v))
  all_insert_at Less k v e es p all more = All-cons (λ (e : K × X). P e.1) (k, v) (e ∷ es) p all
  all_insert_at Equal k v e es p all more = All-cons (λ (e : K × X). P e.1) (e.0, v) es p (All-tail (λ (e : K × X). P e.1) e es all)
  all_insert_at Greater k v e es p all more = All-cons (λ (e : K × X). P e.1) e (insert_entry R es k v) (All-head (λ (e : K × X). P e.1) e es all) more

  pub all_insert : (es : List (K × X)) (k : K) (v : X) → P v → All (λ e. P e.1) es → All (λ e. P e.1) (insert_entry R es k v)
  all_insert [] k v p all = All-cons (λ (e : K × X). P e.1) (k, v) [] p all
  all_insert (e ∷ es) k v p all = all_insert_at (R k e.0) k v e es p all (all_insert es k v p (All-tail (λ (e : K × X). P e.1) e es all))
