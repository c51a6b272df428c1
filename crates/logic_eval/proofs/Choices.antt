-- The total weight and the name at a point, bucket by bucket.
use Rattle.std.proofs.Common.{◌≡◌, ℕ, ◌+◌, ◌-◌, ◌^◌, ◌<◌, ◌≤◌, List, [], ◌∷◌, length, get_or, drop, map, true, false, ◌≢◌, ◌++◌, Result, Ok, Err, eqb, eqb-true, Option, Some, None, option_map, option_and_then, refl, sym, ap, ◌∙◌, arith, inl, inr}
use Rattle.std.specs.Prelude.{nat_lt}
use Rattle.std.specs.Option.{option_map_or}
use Rattle.std.proofs.lemmas.Bool.{cases_Bool}
use Rattle.std.proofs.lemmas.List.{drop_all}
use Rattle.bucket_core.specs.Reading.{weight_of, bucket_with}
use Rattle.bucket_core.specs.Rule.{Entries, at, total_weight, choice}
use Rattle.bucket_core.proofs.Points.{total_weight-cons, at-nil, at-here, at-past}
use Rattle.flag_text.specs.Shape.{Shape, null, boolean, whole, other, text, list, object}
use Rattle.bucket_core.specs.Point.{point_of, scale}
use Rattle.murmur_core.specs.Murmur.{hash}
use Rattle.logic_values.specs.declared.fault.EvalFault.{EvalFault}
use Rattle.logic_values.specs.declared.fault.EvalFault.TheVariants.{BadBuckets}
use Rattle.logic_eval.specs.declared.fractional.WeightedVariant.{WeightedVariant}
use Rattle.logic_eval.specs.Budget.{Progress, paid}
use Rattle.logic_eval.specs.Run.{Run, ends}
use Rattle.logic_eval.specs.Fractional.{entries_of, buckets_of, not_too_heavy, by_buckets, decided, input_result, reached, chosen}
use Rattle.logic_values.specs.Number.{below}
use Rattle.logic_eval.specs.Views.{weighted_variant_view}
use Rattle.logic_eval.proofs.Budgets.{bind_ok, bind_err, ends_ok, ends_err, paid-gives, paid-faults, paid-reach}
use Rattle.logic_values.proofs.Items.{drop_at}

-- the total of the buckets after weights of this sum
abbrev pub totals : ℕ → List (Shape × Shape) → Option ℕ
totals sum ps = option_and_then (λ es. below (2 ^ 31) (sum + total_weight es)) (entries_of ps)

pub totals-start : (ps : List (Shape × Shape)) → option_map total_weight (buckets_of ps) ≡ totals 0 ps
totals-start ps = go (entries_of ps)
  where
    go : (o : Option Entries) → option_map total_weight (option_and_then not_too_heavy o) ≡ option_and_then (λ es. below (2 ^ 31) (0 + total_weight es)) o
    go None = refl
    go (Some es) =
        let z : 0 + total_weight es ≡ total_weight es = omega arith in
        elim (cases_Bool (nat_lt (total_weight es) (2 ^ 31))) [ inl e ↦ rw (z, e) refl | inr e ↦ rw (z, e) refl ]

module _ (sum : ℕ) (xs : List WeightedVariant) (i : ℕ) (x : WeightedVariant) (within : i < length xs) (is : x ≡ get_or xs i x) where
  pub totals_next : (e : List ℕ × ℕ) → Some e ≡ bucket_with (weight_of (weighted_variant_view x).1) (weighted_variant_view x).0 → totals sum (map weighted_variant_view (drop i xs)) ≡ totals (sum + e.1) (map weighted_variant_view (drop (i + 1) xs))
  totals_next e h = rw (drop_at xs i x within is, ← h) (go (entries_of (map weighted_variant_view (drop (i + 1) xs))))
    where
      go : (o : Option Entries) → option_and_then (λ es. below (2 ^ 31) (sum + total_weight es)) (option_map (λ es. e ∷ es) o) ≡ option_and_then (λ es. below (2 ^ 31) (sum + e.1 + total_weight es)) o
      go None = refl
      go (Some es) = ap (below (2 ^ 31)) (let k = total_weight-cons e es in omega arith)

  pub totals_none : None ≡ bucket_with (weight_of (weighted_variant_view x).1) (weighted_variant_view x).0 → totals sum (map weighted_variant_view (drop i xs)) ≡ None
  totals_none h = rw (drop_at xs i x within is, ← h) refl

pub totals_heavy : (sum : ℕ) (ps : List (Shape × Shape)) → 2 ^ 31 ≤ sum → totals sum ps ≡ None
totals_heavy sum ps h = go (entries_of ps)
  where
    go : (o : Option Entries) → option_and_then (λ es. below (2 ^ 31) (sum + total_weight es)) o ≡ None
    go None = refl
    go (Some es) = let k : nat_lt (sum + total_weight es) (2 ^ 31) ≡ false = grind arith in rw k refl

pub totals_end : (sum : ℕ) (xs : List WeightedVariant) (i : ℕ) → length xs ≤ i → sum < 2 ^ 31 → totals sum (map weighted_variant_view (drop i xs)) ≡ Some sum
totals_end sum xs i h k =
    let z : sum + 0 ≡ sum = omega arith in
    let t : nat_lt sum (2 ^ 31) ≡ true = grind arith in
    rw (drop_all i xs h) (rw (z, t) refl)

-- the name of a bucket is a text
pub is_named : (w : Option ℕ) (t : Shape) (e : List ℕ × ℕ) → Some e ≡ bucket_with w t → t ≡ text e.0
is_named w null e h = absurd (cc h)
is_named w (boolean b) e h = absurd (cc h)
is_named w (whole n) e h = absurd (cc h)
is_named w other e h = absurd (cc h)
is_named None (text s) e h = absurd (cc h)
is_named (Some n) (text s) e h = let same : e ≡ (s, n) = cc in ap (λ k. text k.0) (sym same)
is_named w (list ts) e h = absurd (cc h)
is_named w (object ms) e h = absurd (cc h)

-- the rest of the entries, and the place of the point among theirs
pub record Rest (xs : List WeightedVariant) (i point left : ℕ) (r : Entries) : Type 0 where
  pub rest : Entries
  pub entries : entries_of (map weighted_variant_view (drop i xs)) ≡ Some rest
  pub same : at r point ≡ at rest left

module _ (xs : List WeightedVariant) (i : ℕ) (x : WeightedVariant) (within : i < length xs) (is : x ≡ get_or xs i x) (point left : ℕ) (r : Entries) (now : Rest xs i point left r) where
  parted : (e : List ℕ × ℕ) → Some e ≡ bucket_with (weight_of (weighted_variant_view x).1) (weighted_variant_view x).0
      → (es : Entries) × (entries_of (map weighted_variant_view (drop (i + 1) xs)) ≡ Some es) × (now.rest ≡ e ∷ es)
  parted e h = go (entries_of (map weighted_variant_view (drop (i + 1) xs))) refl (rw (drop_at xs i x within is, ← h) at now.entries)
    where
      go : (o : Option Entries) → entries_of (map weighted_variant_view (drop (i + 1) xs)) ≡ o → option_map (λ es. e ∷ es) o ≡ Some now.rest
          → (es : Entries) × (entries_of (map weighted_variant_view (drop (i + 1) xs)) ≡ Some es) × (now.rest ≡ e ∷ es)
      go None g k = absurd (cc k)
      go (Some es) g k = (es, g, cc k)

  pub name_here : (e : List ℕ × ℕ) → Some e ≡ bucket_with (weight_of (weighted_variant_view x).1) (weighted_variant_view x).0 → left < e.1 → at r point ≡ Some e.0
  name_here e h k = let p = parted e h in now.same ∙ (ap (λ es. at es left) p.2 ∙ at-here e p.0 left k)

  pub name_later : (e : List ℕ × ℕ) → Some e ≡ bucket_with (weight_of (weighted_variant_view x).1) (weighted_variant_view x).0 → e.1 ≤ left → Rest xs (i + 1) point (left - e.1) r
  name_later e h k = let p = parted e h in record { rest = p.0; entries = p.1; same = now.same ∙ (ap (λ es. at es left) p.2 ∙ at-past e p.0 left k) }

  pub no_entry : None ≡ bucket_with (weight_of (weighted_variant_view x).1) (weighted_variant_view x).0 → at r point ≡ None
  no_entry h = absurd (cc (rw (drop_at xs i x within is, ← h) at now.entries))

pub name_end : (xs : List WeightedVariant) (i point left : ℕ) (r : Entries) → Rest xs i point left r → length xs ≤ i → at r point ≡ None
name_end xs i point left r now h =
    let e = rw (drop_all i xs h) at now.entries in
    let n : now.rest ≡ [] = cc e in
    now.same ∙ (ap (λ es. at es left) n ∙ at-nil left)

pub not_zero : (a t : ℕ) → t ≡ a → t ≢ 0 → eqb a 0 ≡ false
not_zero a t e n = elim (cases_Bool (eqb a 0)) [ inl z ↦ absurd (n (e ∙ eqb-true a 0 z)) | inr z ↦ z ]

pub buckets_entries : (ps : List (Shape × Shape)) (r : Entries) → buckets_of ps ≡ Some r → entries_of ps ≡ Some r
buckets_entries ps r h = go (entries_of ps) h
  where
    go : (o : Option Entries) → option_and_then not_too_heavy o ≡ Some r → o ≡ Some r
    go None e = absurd (cc e)
    go (Some es) e = elim (cases_Bool (nat_lt (total_weight es) (2 ^ 31))) [ inl z ↦ rw z at e | inr z ↦ absurd (cc (rw z at e)) ]

pub chosen_gives : (q : Progress) (o : Option (List ℕ)) → paid q (chosen o) ≡ Ok (option_map_or text o null, q)
chosen_gives q None = paid-gives q null
chosen_gives q (Some name) = paid-gives q (text name)

-- the same shape of two names, or null for none
pub or_null : {A B : Type 0} (f : A → Shape) (g : B → Shape) (a : Option A) (b : Option B) → option_map f a ≡ option_map g b → option_map_or f a null ≡ option_map_or g b null
or_null f g None None e = refl
or_null f g None (Some y) e = absurd (cc e)
or_null f g (Some x) None e = absurd (cc e)
or_null f g (Some x) (Some y) e = cc

-- what a site decides, by the total of its buckets and its input
module _ (site : ℕ) (input : Option (Result (List ℕ) EvalFault)) (ps : List (Shape × Shape)) (p : Progress) where
  pub decided_bad : None ≡ option_map total_weight (buckets_of ps) → paid p (decided site input ps) ≡ Err BadBuckets
  decided_bad h = go (buckets_of ps) h
    where
      go : (o : Option Entries) → None ≡ option_map total_weight o → paid p (by_buckets site input o) ≡ Err BadBuckets
      go None e = paid-faults p BadBuckets
      go (Some r) e = absurd (cc e)

  pub decided_weightless : Some 0 ≡ option_map total_weight (buckets_of ps) → paid p (decided site input ps) ≡ Ok (null, p)
  decided_weightless h = go (buckets_of ps) h input
    where
      go : (o : Option Entries) → Some 0 ≡ option_map total_weight o → (i : Option (Result (List ℕ) EvalFault)) → paid p (by_buckets site i o) ≡ Ok (null, p)
      go None e i = absurd (cc e)
      go (Some r) e None = paid-gives p null
      go (Some r) e (Some i) = let z : total_weight r ≡ 0 = cc e in rw z (paid-gives p null)

  pub decided_fault : (t : ℕ) (f : EvalFault) → Some t ≡ option_map total_weight (buckets_of ps) → t ≢ 0 → input_result input ≡ Err f → paid p (decided site input ps) ≡ Err f
  decided_fault t f h n g = go (buckets_of ps) h input g
    where
      go : (o : Option Entries) → Some t ≡ option_map total_weight o → (i : Option (Result (List ℕ) EvalFault)) → input_result i ≡ Err f → paid p (by_buckets site i o) ≡ Err f
      go None e i k = absurd (cc e)
      go (Some r) e None k = absurd (cc k)
      go (Some r) e (Some (Ok s)) k = absurd (cc k)
      go (Some r) e (Some (Err d)) k =
          let z : eqb (total_weight r) 0 ≡ false = not_zero (total_weight r) t (cc e) n in
          let same : d ≡ f = cc k in
          rw z (bind_err p (let x : Run (List ℕ) = ends (Err d) in x) (reached site r) f (ends_err p (Err d) f (ap Err same)))

  pub decided_without : (t : ℕ) → Some t ≡ option_map total_weight (buckets_of ps) → input_result input ≡ Ok None → paid p (decided site input ps) ≡ Ok (null, p)
  decided_without t h g = go (buckets_of ps) h input g
    where
      go : (o : Option Entries) → Some t ≡ option_map total_weight o → (i : Option (Result (List ℕ) EvalFault)) → input_result i ≡ Ok None → paid p (by_buckets site i o) ≡ Ok (null, p)
      go None e i k = absurd (cc e)
      go (Some r) e None k = paid-gives p null
      go (Some r) e (Some (Ok s)) k = absurd (cc k)
      go (Some r) e (Some (Err d)) k = absurd (cc k)

  -- the name that is chosen, if there is one
  pub decided_ok : (t : ℕ) (s : List ℕ) (v : Shape) → Some t ≡ option_map total_weight (buckets_of ps) → t ≢ 0 → input_result input ≡ Ok (Some s)
      → ((r : Entries) → entries_of ps ≡ Some r → v ≡ option_map_or text (at r (point_of t s)) null)
      → paid p (decided site input ps) ≡ Ok (v, (p.0, p.1 ++ record { site = site; input = s; total = t } ∷ []))
  decided_ok t s v h n g named = go (buckets_of ps) refl h input g
    where
      at_site : (r : Entries) → t ≡ total_weight r → entries_of ps ≡ Some r
          → paid p (reached site r s) ≡ Ok (v, (p.0, p.1 ++ record { site = site; input = s; total = t } ∷ []))
      at_site r z es =
          let same : option_map_or text (choice r s) null ≡ v = ap (λ w. option_map_or text (at r (point_of w s)) null) (sym z) ∙ sym (named r es) in
          paid-reach p (record { site = site; input = s; total = total_weight r }) (chosen (choice r s))
          ∙ (chosen_gives _ (choice r s) ∙ rw (same, z) refl)

      go : (o : Option Entries) → buckets_of ps ≡ o → Some t ≡ option_map total_weight o → (i : Option (Result (List ℕ) EvalFault)) → input_result i ≡ Ok (Some s)
          → paid p (by_buckets site i o) ≡ Ok (v, (p.0, p.1 ++ record { site = site; input = s; total = t } ∷ []))
      go None b e i k = absurd (cc e)
      go (Some r) b e None k = absurd (cc k)
      go (Some r) b e (Some (Err d)) k = absurd (cc k)
      go (Some r) b e (Some (Ok u)) k =
          let w : t ≡ total_weight r = cc e in
          let z : eqb (total_weight r) 0 ≡ false = not_zero (total_weight r) t w n in
          let same : u ≡ s = cc k in
          rw (z, same) (bind_ok p (let x : Run (List ℕ) = ends (Ok s) in x) (reached site r) s p (ends_ok p (Ok s) s refl) ∙ at_site r w (buckets_entries ps r b))

-- the point of a hash input, by its hash
pub scaled : (total h : ℕ) (s : List ℕ) → h ≡ hash s 0 → scale total h ≡ point_of total s
unfolding point_of
scaled total h s e = ap (scale total) e
