-- Flags put in the order of their keys one by one.
use Rattle.std.proofs.Common.{◌≡◌, ℕ, List, [], ◌∷◌, ◌++◌, map, String, string_bytes, refl, sym, ap, ◌∙◌}
use Rattle.std.specs.declared.alloc.Global.{Global}
use Rattle.std.specs.BTreeMap.{insert_entry}
use Rattle.std.specs.Cmp.Lexicographic.{slice_cmp}
use Rattle.std.specs.List.{AllByRecursion, fold}
use Rattle.std.specs.List.Sorted.{IsStrictlySortedBy}
use Rattle.std.specs.Map.{keys_of}
use Rattle.std.specs.Ordering.{match_ordering, nat_cmp, on}
use Rattle.std.specs.declared.cmp.Ordering.{Ordering}
use Rattle.std.specs.declared.cmp.Ordering.TheVariants.{Less, Equal, Greater}
use Rattle.std.proofs.lemmas.List.{map-append}
use Rattle.std.proofs.lemmas.List.Sums.{fold-append}
use Rattle.flag_defs.specs.Flag.{entries_view}
use Rattle.flag_defs.specs.declared.flag.Flag.{Flag}

abbrev pub Entry : Type 0
Entry = String Global × Flag

-- the order of the program's texts
abbrev pub text_cmp : String Global → String Global → Ordering
text_cmp = on string_bytes (slice_cmp nat_cmp)

-- an entry, of whose flag g is told
abbrev pub seen_by : {V : Type 0} → (Flag → V) → Entry → List ℕ × V
seen_by g e = (string_bytes e.0, g e.1)

-- the map with one more entry
abbrev pub with_one : {V : Type 0} → List (List ℕ × V) → List ℕ × V → List (List ℕ × V)
with_one fs f = insert_entry (slice_cmp nat_cmp) fs f.0 f.1

module _ {V : Type 0} (g : Flag → V) where
  insert-seen_at : (o : Ordering) (k : String Global) (v : Flag) (e : Entry) (es : List Entry)
      → map (seen_by g) (insert_entry text_cmp es k v) ≡ insert_entry (slice_cmp nat_cmp) (map (seen_by g) es) (string_bytes k) (g v)
      → map (seen_by g) (match_ordering o ((k, v) ∷ e ∷ es) ((e.0, v) ∷ es) (e ∷ insert_entry text_cmp es k v))
      ≡ match_ordering o ((string_bytes k, g v) ∷ seen_by g e ∷ map (seen_by g) es) ((string_bytes e.0, g v) ∷ map (seen_by g) es) (seen_by g e ∷ insert_entry (slice_cmp nat_cmp) (map (seen_by g) es) (string_bytes k) (g v))
  insert-seen_at Less k v e es more = refl
  insert-seen_at Equal k v e es more = refl
  insert-seen_at Greater k v e es more = ap (λ xs. seen_by g e ∷ xs) more

  insert-seen : (es : List Entry) (k : String Global) (v : Flag) → map (seen_by g) (insert_entry text_cmp es k v) ≡ insert_entry (slice_cmp nat_cmp) (map (seen_by g) es) (string_bytes k) (g v)
  insert-seen [] k v = refl
  insert-seen (e ∷ es) k v = insert-seen_at (slice_cmp nat_cmp (string_bytes k) (string_bytes e.0)) k v e es (insert-seen es k v)

  sorted-push : (es : List Entry) (e : Entry) → fold (with_one {V = V}) [] (map (seen_by g) (es ++ e ∷ [])) ≡ with_one (fold (with_one {V = V}) [] (map (seen_by g) es)) (seen_by g e)
  sorted-push es e = ap (λ (fs : List (List ℕ × V)). fold (with_one {V = V}) [] fs) (map-append (seen_by g) es (e ∷ [])) ∙ fold-append (with_one {V = V}) [] (map (seen_by g) es) (seen_by g e ∷ [])

  -- one more flag
  pub one_more : (old new ys : List Entry) (k : String Global) (v : Flag) → new ≡ insert_entry text_cmp old k v → map (seen_by g) old ≡ fold (with_one {V = V}) [] (map (seen_by g) ys)
      → map (seen_by g) new ≡ fold (with_one {V = V}) [] (map (seen_by g) (ys ++ (k, v) ∷ []))
  one_more old new ys k v is same =
      ap (map (seen_by g)) is ∙ (insert-seen old k v ∙ (ap (λ (fs : List (List ℕ × V)). with_one fs (string_bytes k, g v)) same ∙ sym (sorted-push ys (k, v))))

above_viewed : (p : List ℕ) (es : List Entry) (k : String Global) → p ≡ string_bytes k → AllByRecursion (λ y. text_cmp k y ≡ Less) (keys_of es) → AllByRecursion (λ q. slice_cmp nat_cmp p q ≡ Less) (keys_of (entries_view es))
above_viewed p [] k e h = h
above_viewed p (f ∷ es) k e h = (ap (λ q. slice_cmp nat_cmp q (string_bytes f.0)) e ∙ h.0, above_viewed p es k e h.1)

pub rise_viewed : (es : List Entry) → IsStrictlySortedBy text_cmp (keys_of es) → IsStrictlySortedBy (slice_cmp nat_cmp) (keys_of (entries_view es))
unfolding IsStrictlySortedBy
rise_viewed [] h = h
rise_viewed (e ∷ es) h = (above_viewed (string_bytes e.0) es e.0 refl h.0, rise_viewed es h.1)
