-- Joining neighbours of one key keeps each key's amount, and of sorted rows it leaves each key once, in order.
use Rattle.std.proofs.Common.{◌≡◌, ◌⊎◌, inl, inr, ⊎_elim, ℕ, suc, ◌+◌, ◌<◌, List, [], ◌∷◌, map, get_or, Bool, true, false, cond, Option, Some, unwrap_or, sum_by, Ordering, refl, sym, ap, ◌∙◌, subst, arith}
use Rattle.std.specs.Cmp.{IsTotalOrder}
use Rattle.std.specs.List.{All, AllByRecursion}
use Rattle.std.specs.List.Sorted.{IsStrictlySortedBy, IsSortedBy}
use Rattle.std.specs.Map.{keys_of, lookup}
use Rattle.std.specs.Ordering.{is_lt, ordering_reverse, ordering_then}
use Rattle.std.specs.declared.cmp.Ordering.TheVariants.{Less, Equal, Greater}
use Rattle.std.proofs.lemmas.Bool.{cases_Bool, cond-true, cond-false, false_from_ne_true}
use Rattle.std.proofs.lemmas.List.Elements.{All-cons, All-head, All-tail}
use Rattle.std.proofs.lemmas.List.Sums.{sum_by-cons}
use Rattle.std.proofs.lemmas.Map.Keys.{sorted_head, sorted_tail}
use Rattle.transport_core.specs.Rows.{amount_of, joined_from, joined}
use Rattle.transport_core.proofs.Keys.{not_below_itself}

pub joined-same : {K : Type 0} (same : K → K → Bool) (key : K) (n : ℕ) (row : K × ℕ) (rows : List (K × ℕ)) → same key row.0 ≡ true → joined_from same (key, n) (row ∷ rows) ≡ joined_from same (key, n + row.1) rows
joined-same same key n row rows ties = cond-true (same key row.0) (joined_from same (key, n + row.1) rows) ((key, n) ∷ joined_from same row rows) ties

pub joined-other : {K : Type 0} (same : K → K → Bool) (key : K) (n : ℕ) (row : K × ℕ) (rows : List (K × ℕ)) → same key row.0 ≡ false → joined_from same (key, n) (row ∷ rows) ≡ (key, n) ∷ joined_from same row rows
joined-other same key n row rows apart = cond-false (same key row.0) (joined_from same (key, n + row.1) rows) ((key, n) ∷ joined_from same row rows) apart

-- ---- amounts

amount-cons : {K : Type 0} (same : K → K → Bool) (key : K) (row : K × ℕ) (rows : List (K × ℕ)) → amount_of same (row ∷ rows) key ≡ cond (same key row.0) row.1 0 + amount_of same rows key
amount-cons same key row rows = sum_by-cons (λ r. cond (same key r.0) r.1 0) row rows

pub both_parts : (b : Bool) (m n : ℕ) → cond b (m + n) 0 ≡ cond b m 0 + cond b n 0
both_parts true m n = refl
both_parts false m n = omega arith

-- the amounts of the keys that pass a test
abbrev pub passed : {K : Type 0} → (K → Bool) → List (K × ℕ) → ℕ
passed test rows = sum_by (λ r. cond (test r.0) r.1 0) rows

pub passed-cons : {K : Type 0} (test : K → Bool) (row : K × ℕ) (rows : List (K × ℕ)) → passed test (row ∷ rows) ≡ cond (test row.0) row.1 0 + passed test rows
passed-cons test row rows = sum_by-cons (λ r. cond (test r.0) r.1 0) row rows

passed-joined_from : {K : Type 0} (same : K → K → Bool) (only : (a b : K) → same a b ≡ true → a ≡ b) (test : K → Bool) (row : K × ℕ) (rows : List (K × ℕ)) → passed test (joined_from same row rows) ≡ passed test (row ∷ rows)
passed-joined_from same only test row [] = refl
passed-joined_from {K} same only test row (next ∷ rows) =
    ⊎_elim
    (λ (ties : same row.0 next.0 ≡ true).
    let equal : cond (test row.0) next.1 0 ≡ cond (test next.0) next.1 0 = ap (λ (k : K). let n : ℕ = cond (test k) next.1 0 in n) (only row.0 next.0 ties) in
    ap (λ rs. passed test rs) (joined-same same row.0 row.1 next rows ties)
    ∙ (passed-joined_from same only test (row.0, row.1 + next.1) rows
    ∙ omega (arith, passed-cons test (row.0, row.1 + next.1) rows, passed-cons test row (next ∷ rows), passed-cons test next rows, both_parts (test row.0) row.1 next.1, equal)))
    (λ (apart : same row.0 next.0 ≡ false).
    ap (λ rs. passed test rs) (joined-other same row.0 row.1 next rows apart)
    ∙ omega (arith, passed-cons test row (joined_from same next rows), passed-cons test row (next ∷ rows), passed-joined_from same only test next rows))
    (cases_Bool (same row.0 next.0))

pub passed-joined : {K : Type 0} (same : K → K → Bool) (only : (a b : K) → same a b ≡ true → a ≡ b) (test : K → Bool) (rows : List (K × ℕ)) → passed test (joined same rows) ≡ passed test rows
passed-joined same only test [] = refl
passed-joined same only test (row ∷ rows) = passed-joined_from same only test row rows

pub amount-joined : {K : Type 0} (same : K → K → Bool) (only : (a b : K) → same a b ≡ true → a ≡ b) (rows : List (K × ℕ)) (key : K) → amount_of same (joined same rows) key ≡ amount_of same rows key
amount-joined same only rows key = passed-joined same only (same key) rows

-- ---- order

-- each key is the one before it, or above it
abbrev pub Climbs : {K : Type 0} → (K → K → Bool) → (K → K → Ordering) → K → List (K × ℕ) → Type 0
Climbs same R key [] = Unit {0}
Climbs same R key (row ∷ rows) = ((same key row.0 ≡ true) ⊎ (R key row.0 ≡ Less)) × Climbs same R row.0 rows

-- what stands behind the first row of a joined list
record Joins {K : Type 0} (R : K → K → Ordering) (key : K) (out : List (K × ℕ)) : Type 0 where
  amount : ℕ
  rest : List (K × ℕ)
  is : out ≡ (key, amount) ∷ rest
  above : AllByRecursion (λ y. R key y ≡ Less) (keys_of rest)
  rise : IsStrictlySortedBy R (keys_of rest)

all_above : {K : Type 0} (R : K → K → Ordering) (order : IsTotalOrder R) (low high : K) (ks : List K) → R low high ≡ Less → AllByRecursion (λ y. R high y ≡ Less) ks → AllByRecursion (λ y. R low y ≡ Less) ks
all_above R order low high [] less above = tt
all_above R order low high (k ∷ ks) less above = (order.trans low high k less above.0, all_above R order low high ks less above.1)

pub rise-cons : {K : Type 0} (R : K → K → Ordering) (k : K) (ks : List K) → AllByRecursion (λ y. R k y ≡ Less) ks → IsStrictlySortedBy R ks → IsStrictlySortedBy R (k ∷ ks)
unfolding IsStrictlySortedBy
rise-cons R k ks above rise = (above, rise)

pub rise-nil : {K : Type 0} (R : K → K → Ordering) → IsStrictlySortedBy R []
unfolding IsStrictlySortedBy
rise-nil R = tt

joins : {K : Type 0} (same : K → K → Bool) (only : (a b : K) → same a b ≡ true → a ≡ b) (R : K → K → Ordering) (order : IsTotalOrder R) (key : K) (n : ℕ) (rows : List (K × ℕ)) → Climbs same R key rows → Joins R key (joined_from same (key, n) rows)
joins same only R order key n [] climbs = record { amount = n; rest = []; is = refl; above = tt; rise = rise-nil R }
joins {K} same only R order key n (row ∷ rows) climbs =
    ⊎_elim
    (λ (ties : same key row.0 ≡ true).
    let C : K → Type 0 = λ k. Climbs same R k rows in
    let later = joins same only R order key (n + row.1) rows (subst C (sym (only key row.0 ties)) climbs.1) in
    record { amount = later.amount; rest = later.rest; is = joined-same same key n row rows ties ∙ later.is; above = later.above; rise = later.rise })
    (λ (apart : same key row.0 ≡ false).
    let less : R key row.0 ≡ Less = ⊎_elim (λ (ties : same key row.0 ≡ true). cc) (λ (h : R key row.0 ≡ Less). h) climbs.0 in
    let later = joins same only R order row.0 row.1 rows climbs.1 in
    record {
      amount = n;
      rest = (row.0, later.amount) ∷ later.rest;
      is = joined-other same key n row rows apart ∙ ap (λ rs. (key, n) ∷ rs) later.is;
      above = (less, all_above R order key row.0 (keys_of later.rest) less later.above);
      rise = rise-cons R row.0 (keys_of later.rest) later.above later.rise;
    })
    (cases_Bool (same key row.0))

rise-joins : {K : Type 0} (R : K → K → Ordering) (key : K) (out : List (K × ℕ)) → Joins R key out → IsStrictlySortedBy R (keys_of out)
rise-joins {K} R key out j = let P : List (K × ℕ) → Type 0 = λ rs. IsStrictlySortedBy R (keys_of rs) in subst P (sym j.is) (rise-cons R key (keys_of j.rest) j.above j.rise)

later : {X : Type 0} (lt : X → X → Bool) (x y : X) (xs : List X) → IsSortedBy lt (x ∷ y ∷ xs) → IsSortedBy lt (y ∷ xs)
later lt x y xs sorted k d low high =
    let next : suc k + 1 ≡ suc (k + 1) = omega arith in
    ap (λ n. lt (get_or (x ∷ y ∷ xs) n d) (get_or (y ∷ xs) k d)) (sym next) ∙ sorted (suc k) d (omega arith) (omega arith)

-- rows with their keys as f sees them
abbrev pub seen : {K J : Type 0} → (K → J) → List (K × ℕ) → List (J × ℕ)
seen f rows = map (λ r. (f r.0, r.1)) rows

-- rows that are sorted by a test under which no key falls
climbs_from_sorted : {K J : Type 0} (f : K → J) (same : J → J → Bool) (R : J → J → Ordering) (lt : K × ℕ → K × ℕ → Bool) (step : (x y : K × ℕ) → lt y x ≡ false → (same (f x.0) (f y.0) ≡ true) ⊎ (R (f x.0) (f y.0) ≡ Less)) (row : K × ℕ) (rows : List (K × ℕ))
    → IsSortedBy lt (row ∷ rows) → Climbs same R (f row.0) (seen f rows)
climbs_from_sorted f same R lt step row [] sorted = tt
climbs_from_sorted f same R lt step row (next ∷ rows) sorted =
    (step row next (sorted 0 row (omega arith) (omega arith)), climbs_from_sorted f same R lt step next rows (later lt row next rows sorted))

pub rise-joined : {K J : Type 0} (f : K → J) (same : J → J → Bool) (only : (a b : J) → same a b ≡ true → a ≡ b) (R : J → J → Ordering) (order : IsTotalOrder R) (lt : K × ℕ → K × ℕ → Bool)
    (step : (x y : K × ℕ) → lt y x ≡ false → (same (f x.0) (f y.0) ≡ true) ⊎ (R (f x.0) (f y.0) ≡ Less)) (rows : List (K × ℕ)) → IsSortedBy lt rows → IsStrictlySortedBy R (keys_of (joined same (seen f rows)))
rise-joined f same only R order lt step [] sorted = rise-nil R
rise-joined f same only R order lt step (row ∷ rows) sorted =
    rise-joins R (f row.0) (joined_from same (f row.0, row.1) (seen f rows)) (joins same only R order (f row.0) row.1 (seen f rows) (climbs_from_sorted f same R lt step row rows sorted))

-- what a sort by key and amount says of the keys
step_by : {J : Type 0} (same : J → J → Bool) (R : J → J → Ordering) (order : IsTotalOrder R) (ties : (a b : J) → R b a ≡ Equal → same a b ≡ true) (a b : J) (z o : Ordering) → R b a ≡ o → is_lt (ordering_then o z) ≡ false → (same a b ≡ true) ⊎ (R a b ≡ Less)
step_by same R order ties a b z Less is above = cc
step_by same R order ties a b z Equal is above = inl (ties a b is)
step_by same R order ties a b z Greater is above = inr (order.antisymm a b ∙ ap ordering_reverse is)

pub step : {J : Type 0} (same : J → J → Bool) (R : J → J → Ordering) (order : IsTotalOrder R) (ties : (a b : J) → R b a ≡ Equal → same a b ≡ true) (a b : J) (z : Ordering) → is_lt (ordering_then (R b a) z) ≡ false → (same a b ≡ true) ⊎ (R a b ≡ Less)
step same R order ties a b z above = step_by same R order ties a b z (R b a) refl above

-- ---- the same, where keys are seen as others

pub joined_from-seen : {K J : Type 0} (f : K → J) (same : K → K → Bool) (alike : J → J → Bool) (agree : (a b : K) → same a b ≡ alike (f a) (f b)) (row : K × ℕ) (rows : List (K × ℕ)) → seen f (joined_from same row rows) ≡ joined_from alike (f row.0, row.1) (seen f rows)
joined_from-seen f same alike agree row [] = refl
joined_from-seen f same alike agree row (next ∷ rows) =
    ⊎_elim
    (λ (ties : same row.0 next.0 ≡ true).
    ap (seen f) (joined-same same row.0 row.1 next rows ties)
    ∙ (joined_from-seen f same alike agree (row.0, row.1 + next.1) rows
    ∙ sym (joined-same alike (f row.0) row.1 (f next.0, next.1) (seen f rows) (sym (agree row.0 next.0) ∙ ties))))
    (λ (apart : same row.0 next.0 ≡ false).
    ap (seen f) (joined-other same row.0 row.1 next rows apart)
    ∙ (ap (λ rs. (f row.0, row.1) ∷ rs) (joined_from-seen f same alike agree next rows)
    ∙ sym (joined-other alike (f row.0) row.1 (f next.0, next.1) (seen f rows) (sym (agree row.0 next.0) ∙ apart))))
    (cases_Bool (same row.0 next.0))

pub joined-seen : {K J : Type 0} (f : K → J) (same : K → K → Bool) (alike : J → J → Bool) (agree : (a b : K) → same a b ≡ alike (f a) (f b)) (rows : List (K × ℕ)) → seen f (joined same rows) ≡ joined alike (seen f rows)
joined-seen f same alike agree [] = refl
joined-seen f same alike agree (row ∷ rows) = joined_from-seen f same alike agree row rows

-- ---- what holds of each key

keys-joined_from : {K : Type 0} (P : K → Type 0) (same : K → K → Bool) (row : K × ℕ) (rows : List (K × ℕ)) → P row.0 → All (λ r. P r.0) rows → All (λ r. P r.0) (joined_from same row rows)
keys-joined_from {K} P same row [] here all = All-cons (λ (r : K × ℕ). P r.0) row [] here all
keys-joined_from {K} P same row (next ∷ rows) here all =
    let Q : List (K × ℕ) → Type 0 = λ rs. All (λ r. P r.0) rs in
    let first = All-head (λ (r : K × ℕ). P r.0) next rows all in
    let rest = All-tail (λ (r : K × ℕ). P r.0) next rows all in
    ⊎_elim
    (λ (ties : same row.0 next.0 ≡ true). subst Q (sym (joined-same same row.0 row.1 next rows ties)) (keys-joined_from P same (row.0, row.1 + next.1) rows here rest))
    (λ (apart : same row.0 next.0 ≡ false). subst Q (sym (joined-other same row.0 row.1 next rows apart)) (All-cons (λ (r : K × ℕ). P r.0) row (joined_from same next rows) here (keys-joined_from P same next rows first rest)))
    (cases_Bool (same row.0 next.0))

pub keys-joined : {K : Type 0} (P : K → Type 0) (same : K → K → Bool) (rows : List (K × ℕ)) → All (λ r. P r.0) rows → All (λ r. P r.0) (joined same rows)
keys-joined P same [] all = all
keys-joined {K} P same (row ∷ rows) all = keys-joined_from P same row rows (All-head (λ (r : K × ℕ). P r.0) row rows all) (All-tail (λ (r : K × ℕ). P r.0) row rows all)

-- ---- no amount is 0

pub some-joined_from : {K : Type 0} (same : K → K → Bool) (row : K × ℕ) (rows : List (K × ℕ)) → 0 < row.1 → All (λ r. 0 < r.1) rows → All (λ r. 0 < r.1) (joined_from same row rows)
some-joined_from {K} same row [] here some = All-cons (λ (r : K × ℕ). 0 < r.1) row [] here some
some-joined_from {K} same row (next ∷ rows) here some =
    let P : List (K × ℕ) → Type 0 = λ rs. All (λ r. 0 < r.1) rs in
    let first : 0 < next.1 = All-head (λ (r : K × ℕ). 0 < r.1) next rows some in
    let rest = All-tail (λ (r : K × ℕ). 0 < r.1) next rows some in
    ⊎_elim
    (λ (ties : same row.0 next.0 ≡ true). subst P (sym (joined-same same row.0 row.1 next rows ties)) (some-joined_from same (row.0, row.1 + next.1) rows (omega arith) rest))
    (λ (apart : same row.0 next.0 ≡ false). subst P (sym (joined-other same row.0 row.1 next rows apart)) (All-cons (λ (r : K × ℕ). 0 < r.1) row (joined_from same next rows) here (some-joined_from same next rows first rest)))
    (cases_Bool (same row.0 next.0))

pub some-joined : {K : Type 0} (same : K → K → Bool) (rows : List (K × ℕ)) → All (λ r. 0 < r.1) rows → All (λ r. 0 < r.1) (joined same rows)
some-joined same [] some = some
some-joined {K} same (row ∷ rows) some = some-joined_from same row rows (All-head (λ (r : K × ℕ). 0 < r.1) row rows some) (All-tail (λ (r : K × ℕ). 0 < r.1) row rows some)

-- ---- where keys rise, a look-up finds the amount

none_of : {K : Type 0} (same : K → K → Bool) (only : (a b : K) → same a b ≡ true → a ≡ b) (R : K → K → Ordering) (order : IsTotalOrder R) (key : K) (rows : List (K × ℕ)) → AllByRecursion (λ y. R key y ≡ Less) (keys_of rows) → amount_of same rows key ≡ 0
none_of same only R order key [] above = refl
none_of {K} same only R order key (row ∷ rows) above =
    let P : K → Type 0 = λ y. R key y ≡ Less in
    let other : same key row.0 ≡ false = false_from_ne_true (same key row.0) (λ ties. not_below_itself order key (subst P (sym (only key row.0 ties)) above.0)) in
    omega (arith, amount-cons same key row rows, cond-false {A = ℕ} (same key row.0) row.1 0 other, none_of same only R order key rows above.1)

pub lookup-amount : {K : Type 0} (same : K → K → Bool) (only : (a b : K) → same a b ≡ true → a ≡ b) (R : K → K → Ordering) (order : IsTotalOrder R) (key : K) (rows : List (K × ℕ)) → IsStrictlySortedBy R (keys_of rows)
    → unwrap_or (lookup (same key) rows) 0 ≡ amount_of same rows key
lookup-amount same only R order key [] rise = refl
lookup-amount {K} same only R order key (row ∷ rows) rise =
    let found : Option ℕ = lookup (same key) rows in
    ⊎_elim
    (λ (ties : same key row.0 ≡ true).
    let Q : K → Type 0 = λ k. AllByRecursion (λ y. R k y ≡ Less) (keys_of rows) in
    let none = none_of same only R order key rows (subst Q (sym (only key row.0 ties)) (sorted_head R row.0 (keys_of rows) rise)) in
    ap (λ o. unwrap_or o 0) (cond-true (same key row.0) (Some row.1) found ties) ∙ omega (arith, amount-cons same key row rows, cond-true {A = ℕ} (same key row.0) row.1 0 ties, none))
    (λ (apart : same key row.0 ≡ false).
    ap (λ o. unwrap_or o 0) (cond-false (same key row.0) (Some row.1) found apart)
    ∙ omega (arith, amount-cons same key row rows, cond-false {A = ℕ} (same key row.0) row.1 0 apart, lookup-amount same only R order key rows (sorted_tail R row.0 (keys_of rows) rise)))
    (cases_Bool (same key row.0))
