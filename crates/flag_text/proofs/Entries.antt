-- A search by halving among entries whose keys rise strictly.
use Rattle.std.proofs.Common.{◌≡◌, ℕ, ◌+◌, ◌<◌, ◌≤◌, List, length, get_or, map, Option, option_map, Some, None, Err, Ordering, refl, sym, ap, ◌∙◌, subst, arith}
use Rattle.std.specs.BTreeMap.{is_at}
use Rattle.std.specs.Cmp.Lexicographic.{slice_cmp}
use Rattle.std.specs.Cmp.{IsTotalOrder}
use Rattle.std.specs.List.{HoldsAt, slice_get}
use Rattle.std.specs.List.Sorted.{IsStrictlySortedBy, IsSortedBy, IsBinarySearchResult}
use Rattle.std.specs.Map.{keys_of, lookup}
use Rattle.std.specs.Ordering.{is_lt, ordering_reverse, nat_cmp}
use Rattle.std.specs.Str.{bytes_eq}
use Rattle.std.specs.declared.cmp.Ordering.TheVariants.{Less, Equal, Greater}
use Rattle.std.proofs.lemmas.Cmp.{eq_by_cmp_equiv}
use Rattle.std.proofs.Math.ListN.{get_or-map}
use Rattle.std.proofs.lemmas.List.{length-map}
use Rattle.std.proofs.lemmas.List.Sorted.{searchable_from_sorted}
use Rattle.std.proofs.lemmas.Map.Entries.{lookup_from_place, lookup_at_gap}
use Rattle.std.proofs.lemmas.Map.Keys.{IsDistinct-from_sorted, Less-from_sorted}
use Rattle.std.proofs.lemmas.Map.Text.{is_eq-slice_cmp}
use Rattle.std.proofs.lemmas.Option.{slice_get-map, slice_get_within, slice_get_read, get_or_from_slice_get}

-- the same search by the comparison of keys and by their equality
pub lookup_name-cmp : {X : Type 0} (name : List ℕ) (es : List (List ℕ × X)) → lookup (is_at (slice_cmp nat_cmp name)) es ≡ lookup (bytes_eq name) es
lookup_name-cmp name es = λ i. lookup (λ q. is_eq-slice_cmp name q i) es

module _ {K X P : Type 0} (R : K → K → Ordering) (o : IsTotalOrder R) (exact : (x y : K) → R x y ≡ Equal → x ≡ y) (at : P → K × X) where
  key_at : (xs : List P) (k : ℕ) (d : P) → get_or (keys_of (map at xs)) k (at d).0 ≡ (at (get_or xs k d)).0
  key_at xs k d = get_or-map (λ (e : K × X). e.0) (map at xs) k (at d) ∙ ap (λ (e : K × X). e.0) (get_or-map at xs k d)

  inside : (xs : List P) (k : ℕ) → k < length xs → k < length (keys_of (map at xs))
  inside xs k h = omega (arith, length-map (map at xs) (λ (e : K × X). e.0), length-map xs at)

  rises : (xs : List P) → IsStrictlySortedBy R (keys_of (map at xs)) → IsSortedBy (λ a b. is_lt (R (at a).0 (at b).0)) xs
  rises xs s = λ k d _ h.
      let less = Less-from_sorted R (keys_of (map at xs)) k (k + 1) (at d).0 s (omega arith) (inside xs (k + 1) h) in
      let at_places : R (at (get_or xs k d)).0 (at (get_or xs (k + 1) d)).0 ≡ Less = rw (sym (key_at xs k d), sym (key_at xs (k + 1) d)) less in
      ap is_lt (o.antisymm (at (get_or xs (k + 1) d)).0 (at (get_or xs k d)).0 ∙ ap ordering_reverse at_places)

  -- an entry of the view is the view of an entry
  of_view : (Q : K → Type 0) (xs : List P) (j : ℕ) (e : K × X) (found : Option P) → slice_get xs j ≡ found → option_map at found ≡ Some e → ((y : P) → slice_get xs j ≡ Some y → Q (at y).0) → Q e.0
  of_view Q xs j e None is same h = absurd (none same)
    where
      none : option_map at None ≡ Some e → ⊥
      none eq = cc
  of_view Q xs j e (Some y) is same h = let eq : at y ≡ e = cc in subst (λ x. Q x.0) eq (h y is)

  pub hit : (xs : List P) (q : K) (i : ℕ) (e : P) → IsStrictlySortedBy R (keys_of (map at xs)) → i < length xs → e ≡ get_or xs i e → HoldsAt (λ y. R (at y).0 q ≡ Equal) xs i → lookup (is_at (R q)) (map at xs) ≡ Some (at e).1
  hit xs q i e s h is equal =
      let same : (at e).0 ≡ q = exact (at e).0 q (subst (λ y. R (at y).0 q ≡ Equal) (sym is) (equal e)) in
      let place : slice_get (map at xs) i ≡ Some ((at e).0, (at e).1) = slice_get-map at xs i ∙ ap (λ r. option_map at r) (slice_get_read xs (length xs) i e refl h is) in
      subst (λ k. lookup (is_at (R k)) (map at xs) ≡ Some (at e).1) same (lookup_from_place (eq_by_cmp_equiv o) (map at xs) i (at e).0 (at e).1 (IsDistinct-from_sorted R (keys_of (map at xs)) s) place)

  pub miss : (xs : List P) (q : K) (i : ℕ) → IsStrictlySortedBy R (keys_of (map at xs)) → i ≤ length xs → IsBinarySearchResult (λ y. R (at y).0 q) xs (Err i) → lookup (is_at (R q)) (map at xs) ≡ None
  miss xs q i s h result =
      let parts = result (searchable_from_sorted o (λ y. (at y).0) xs q (rises xs s)) in
      lookup_at_gap o q (map at xs) i s
      (λ j e below place. of_view (λ k. R q k ≡ Greater) xs j e (slice_get xs j) refl (sym (slice_get-map at xs j) ∙ place) (λ y is.
      let less : R (at y).0 q ≡ Less = subst (λ z. R (at z).0 q ≡ Less) (get_or_from_slice_get xs j y y is) (parts.0 j y (omega arith) below) in
      o.antisymm q (at y).0 ∙ ap ordering_reverse less))
      (λ e place. of_view (λ k. R q k ≡ Less) xs i e (slice_get xs i) refl (sym (slice_get-map at xs i) ∙ place) (λ y is.
      let greater : R (at y).0 q ≡ Greater = subst (λ z. R (at z).0 q ≡ Greater) (get_or_from_slice_get xs i y y is) (parts.1 i y (omega arith) (slice_get_within xs i y is)) in
      o.antisymm q (at y).0 ∙ ap ordering_reverse greater))
