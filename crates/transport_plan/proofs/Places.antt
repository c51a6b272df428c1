-- Where a key stands among keys that rise, as halving finds it.
use Rattle.std.proofs.Common.{◌≡◌, ℕ, zero, suc, ◌+◌, ◌-◌, ◌<◌, ◌≤◌, ⊎_elim, List, [], ◌∷◌, ◌++◌, Bor, length, map, drop, get_or, true, false, Option, Some, unwrap_or, Ordering, refl, sym, ap, ◌∙◌, subst, arith, length-append, length-drop}
use Rattle.std.specs.Cmp.{IsTotalOrder}
use Rattle.std.specs.List.{All, Contains, slice_get, slice_index, slice_range}
use Rattle.std.specs.List.Sorted.{IsStrictlySortedBy, IsPartitionedBy, IsPartitionPoint}
use Rattle.std.specs.Ordering.{is_lt}
use Rattle.std.specs.declared.cmp.Ordering.TheVariants.{Less, Equal, Greater}
use Rattle.std.proofs.Math.ListN.{get_or-map}
use Rattle.std.proofs.lemmas.Bool.{cases_order, cases_eq, cases_lt, false≢true}
use Rattle.std.proofs.lemmas.List.{length-map, length-take, get_or-take, get_or-drop, get_or_default, get_or_append_left, get_or-append-add}
use Rattle.std.proofs.lemmas.Map.Keys.{Less-from_sorted}
use Rattle.std.proofs.lemmas.Option.{slice_get_within, get_or_from_slice_get}
use Rattle.transport_core.proofs.Keys.{not_below_itself}
use Rattle.transport_core.proofs.DualSums.{size-some, group_stands}
use Rattle.transport_core.proofs.Members.{place_from_contains, contains_from_place}
use Rattle.transport_core.proofs.Points.{get_below}
use Rattle.bucket_core.specs.Rule.{Entries, IsRun, total_weight, at}
use Rattle.transport_core.specs.Groups.{GroupKey, AreSizesBy, group_by, row_view, rows_view}
use Rattle.transport_plan.specs.Placing.{AddsPlaces, AreFamilies}
use Rattle.std.specs.Map.{keys_of}

lt_is : (o : Ordering) → is_lt o ≡ true → o ≡ Less
lt_is Less h = refl
lt_is Equal h = cc
lt_is Greater h = cc

module _ {K P : Type 0} (R : K → K → Ordering) (o : IsTotalOrder R) (key : P → K) (xs : List P) (rise : IsStrictlySortedBy R (map key xs)) (q : K) where
  rises : (i j : ℕ) (d : P) → i < j → j < length xs → R (key (get_or xs i d)) (key (get_or xs j d)) ≡ Less
  rises i j d low high =
      let less = Less-from_sorted R (map key xs) i j (key d) rise low (omega (arith, high, length-map xs key)) in
      rw (sym (get_or-map key xs i d), sym (get_or-map key xs j d)) less

  pub partitioned : IsPartitionedBy (λ y. is_lt (R (key y) q)) xs
  partitioned i j d low high passes =
      ⊎_elim
      (λ (same : i ≡ j). ap (λ k. is_lt (R (key (get_or xs k d)) q)) same ∙ passes)
      (λ (not : i ≡ j → ⊥). ap is_lt (o.trans (key (get_or xs i d)) (key (get_or xs j d)) q (rises i j d (omega (arith, low, not)) high) (lt_is (R (key (get_or xs j d)) q) passes)))
      (cases_eq i j)

  pub found : (i j : ℕ) → i ≤ length xs → slice_get (map key xs) j ≡ Some q → IsPartitionPoint (λ y. is_lt (R (key y) q) ≡ true) (λ y. is_lt (R (key y) q) ≡ false) xs i → i ≡ j
  found i j within stands point =
      let below : j < length xs = omega (arith, slice_get_within (map key xs) j q stands, length-map xs key) in
      let x = get_below xs j below in
      let here : get_or xs j x.0 ≡ x.0 = get_or_from_slice_get xs j x.0 x.0 x.1 in
      let key_is : key (get_or xs j x.0) ≡ q = sym (get_or-map key xs j x.0) ∙ get_or_from_slice_get (map key xs) j q (key x.0) stands in
      ⊎_elim
      (λ (same : i ≡ j). same)
      (⊎_elim
      (λ (low : i < j).
      let less : R (key (get_or xs i x.0)) q ≡ Less = subst (λ k. R (key (get_or xs i x.0)) k ≡ Less) key_is (rises i j x.0 low below) in
      absurd (false≢true (sym (point.1 i x.0 (omega arith) (omega (arith, low, below))) ∙ ap is_lt less)))
      (λ (high : j < i).
      let less : is_lt (R (key (get_or xs j x.0)) q) ≡ true = point.0 j x.0 (omega arith) high in
      absurd (not_below_itself o q (subst (λ k. R k q ≡ Less) key_is (lt_is (R (key (get_or xs j x.0)) q) less)))))
      (cases_order i j)

  pub stands_at : (i : ℕ) → i ≤ length xs → Contains (map key xs) q → IsPartitionPoint (λ y. is_lt (R (key y) q) ≡ true) (λ y. is_lt (R (key y) q) ≡ false) xs i → (i < length xs) × (slice_get (map key xs) i ≡ Some q)
  stands_at i within listed point =
      let there = place_from_contains (map key xs) q listed in
      let same : i ≡ there.0 = found i there.0 within there.1 point in
      let here : slice_get (map key xs) i ≡ Some q = ap (slice_get (map key xs)) same ∙ there.1 in
      (omega (arith, slice_get_within (map key xs) i q here, length-map xs key), here)

-- the groups' keys
pub keys-rows : (rows : List ((Bor (List ℕ) × ℕ) × ℕ)) → keys_of (rows_view rows) ≡ map (λ r. (row_view r).0) rows
keys-rows [] = refl
keys-rows (r ∷ rows) = ap (λ ks. (row_view r).0 ∷ ks) (keys-rows rows)

-- the name of the group at a place
pub name_at : (rows : List ((Bor (List ℕ) × ℕ) × ℕ)) (i : ℕ) (d : GroupKey) (r : (Bor (List ℕ) × ℕ) × ℕ) → i < length rows → (get_or (keys_of (rows_view rows)) i d).0 ≡ (get_or rows i r).0.0.now
name_at [] i d r below = absurd (omega arith)
name_at (x ∷ rows) zero d r below = refl
name_at (x ∷ rows) (suc i) d r below = name_at rows i d r (omega arith)

-- ---- families: groups of one name

-- each of the first groups has the name of its family
abbrev pub HaveNames : List GroupKey → List ℕ → ℕ → Type 0
HaveNames keys families i = (k : ℕ) (d : GroupKey) → k < i → (get_or keys (get_or families k 0) d).0 ≡ (get_or keys k d).0

pub names_more : (keys : List GroupKey) (families : List ℕ) (i first : ℕ) → HaveNames keys families i → length families ≡ i → ((d : GroupKey) → (get_or keys first d).0 ≡ (get_or keys i d).0) → HaveNames keys (families ++ first ∷ []) (i + 1)
names_more keys families i first named many here k d below =
    ⊎_elim
    (λ (earlier : k < i). ap (λ n. (get_or keys n d).0) (get_or_append_left families (first ∷ []) 0 k (omega (arith, earlier, many))) ∙ named k d earlier)
    (λ (from : i ≤ k).
    let last : k ≡ i = omega (arith, from, below) in
    let place : k ≡ length families + 0 = omega (arith, last, many) in
    let is : get_or (families ++ first ∷ []) k 0 ≡ first = ap (λ n. get_or (families ++ first ∷ []) n 0) place ∙ get_or-append-add families (first ∷ []) 0 0 in
    ap (λ n. (get_or keys n d).0) is ∙ (here d ∙ ap (λ n. (get_or keys n d).0) (sym last)))
    (cases_lt k i)

pub are_families : (keys : List GroupKey) (families : List ℕ) (n : ℕ) → HaveNames keys families n → length keys ≤ n → AreFamilies keys families
are_families keys families n named all = λ i j g h at beside same.
    let first : (get_or keys (get_or families i 0) g).0 ≡ g.0 = named i g (omega (arith, slice_get_within keys i g at, all)) ∙ ap (λ (k : GroupKey). k.0) (get_or_from_slice_get keys i g g at) in
    let second : (get_or keys (get_or families j 0) g).0 ≡ h.0 = named j g (omega (arith, slice_get_within keys j h beside, all)) ∙ ap (λ (k : GroupKey). k.0) (get_or_from_slice_get keys j h g beside) in
    sym first ∙ (ap (λ k. (get_or keys k g).0) same ∙ second)

-- ---- the groups of the points

pub group_here : (old : Entries) (load : ℕ → ℕ) (p : ℕ) (name : List ℕ) → at old p ≡ Some name → group_by old load p ≡ (name, load p)
group_here old load p name named = ap (λ (o : Option (List ℕ)). let g : GroupKey = (unwrap_or o [], load p) in g) named

pub group_listed : (old : Entries) (load : ℕ → ℕ) (groups : List (GroupKey × ℕ)) (p : ℕ) → AreSizesBy old load groups → p < total_weight old → Contains (keys_of groups) (group_by old load p)
group_listed old load groups p sizes below = contains_from_place (keys_of groups) (group_by old load p) (group_stands old load groups sizes (group_by old load p) (size-some old load p below))

-- ---- points in a row

pub adds_none : (keys : List GroupKey) (name counts before : List ℕ) → AddsPlaces keys name counts 0 before before
adds_none keys name counts before = record {
  grown = omega arith;
  kept = λ q below. refl;
  placed = λ q below. absurd (omega (arith, below));
}

pub adds_more : (keys : List GroupKey) (name counts : List ℕ) (i g : ℕ) (before between after : List ℕ) → AddsPlaces keys name counts i before between → slice_get keys g ≡ Some (name, get_or counts i 0) → after ≡ between ++ g ∷ []
    → AddsPlaces keys name counts (i + 1) before after
adds_more keys name counts i g before between after adds here more = record {
  grown = omega (arith, ap length more, length-append between (g ∷ []), adds.grown);
  kept = λ q below. ap (λ xs. get_or xs q 0) more ∙ (get_or_append_left between (g ∷ []) 0 q (omega (arith, below, adds.grown)) ∙ adds.kept q below);
  placed = λ q below.
      ⊎_elim
      (λ (earlier : q < i). ap (λ xs. slice_get keys (get_or xs (length before + q) 0)) more ∙ (ap (slice_get keys) (get_or_append_left between (g ∷ []) 0 (length before + q) (omega (arith, earlier, adds.grown))) ∙ adds.placed q earlier))
      (λ (from : i ≤ q).
      let last : q ≡ i = omega (arith, from, below) in
      let place : length before + q ≡ length between + 0 = omega (arith, last, adds.grown) in
      let is : get_or after (length before + q) 0 ≡ g = ap (λ xs. get_or xs (length before + q) 0) more ∙ (ap (λ k. get_or (between ++ g ∷ []) k 0) place ∙ get_or-append-add between (g ∷ []) 0 0) in
      ap (slice_get keys) is ∙ (here ∙ ap (λ k. Some (name, get_or counts k 0)) (sym last)))
      (cases_lt q i);
}

part_at : (counts : List ℕ) (from to q : ℕ) → q < to - from → get_or (slice_range counts from to) q 0 ≡ get_or counts (from + q) 0
part_at counts from to q below = get_or-take (to - from) (drop from counts) q 0 below ∙ get_or-drop from counts q 0

pub length-part : (counts : List ℕ) (from to : ℕ) → from ≤ to → to ≤ length counts → length (slice_range counts from to) ≡ to - from
length-part counts from to order inside = omega (arith, length-take (to - from) (drop from counts), length-drop from counts)

module _ (old : Entries) (counts : List ℕ) (from to : ℕ) (order : from ≤ to) (inside : to ≤ length counts) (within : to ≤ total_weight old) (name : List ℕ)
    (is : at old from ≡ Some name) (run : IsRun old from to) where
  part_group : (q : ℕ) → q < to - from → (name, get_or (slice_range counts from to) q 0) ≡ group_by old (slice_index counts) (from + q)
  part_group q below =
      let key = group_here old (slice_index counts) (from + q) name (run (from + q) (omega arith) (omega (arith, below)) ∙ is) in
      ap (λ (n : ℕ). let g : GroupKey = (name, n) in g) (part_at counts from to q below) ∙ sym key

  -- the groups of the run's points stand among the groups
  pub run_listed : (groups : List (GroupKey × ℕ)) → AreSizesBy old (slice_index counts) groups → All (λ n. Contains (keys_of groups) (name, n)) (slice_range counts from to)
  run_listed groups sizes q d below =
      let inner : q < to - from = omega (arith, below, length-part counts from to order inside) in
      let listed = group_listed old (slice_index counts) groups (from + q) sizes (omega (arith, inner, within)) in
      let zeros : get_or (slice_range counts from to) q d ≡ get_or (slice_range counts from to) q 0 = get_or_default (slice_range counts from to) q d 0 below in
      subst (λ n. Contains (keys_of groups) (name, n)) (sym zeros) (subst (λ (g : GroupKey). Contains (keys_of groups) g) (sym (part_group q inner)) listed)

  -- with them all points up to the end of the run are placed
  pub run_placed : (keys : List GroupKey) (before after : List ℕ) → length before ≡ from → ((q : ℕ) → q < from → slice_get keys (get_or before q 0) ≡ Some (group_by old (slice_index counts) q))
      → AddsPlaces keys name (slice_range counts from to) (length (slice_range counts from to)) before after → (q : ℕ) → q < to → slice_get keys (get_or after q 0) ≡ Some (group_by old (slice_index counts) q)
  run_placed keys before after many placed adds q below =
      ⊎_elim
      (λ (earlier : q < from). ap (slice_get keys) (adds.kept q (omega (arith, earlier, many))) ∙ placed q earlier)
      (λ (later : from ≤ q).
      let inner : q - from < to - from = omega (arith, later, below) in
      let place : length before + (q - from) ≡ q = omega (arith, many, later) in
      let point : from + (q - from) ≡ q = omega (arith, later) in
      ap (λ k. slice_get keys (get_or after k 0)) (sym place)
      ∙ (adds.placed (q - from) (omega (arith, inner, length-part counts from to order inside)) ∙ (ap Some (part_group (q - from) inner) ∙ ap (λ k. Some (group_by old (slice_index counts) k)) point)))
      (cases_lt q from)
