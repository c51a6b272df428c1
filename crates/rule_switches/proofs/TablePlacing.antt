-- The places of a table.
use Rattle.std.proofs.Common.{◌≡◌, ◌≢◌, ℕ, zero, suc, ◌+◌, ◌*◌, ◌/◌, ◌%◌, ◌<◌, ◌≤◌, ⊎_elim, Bool, true, false, ◌&&◌, List, [], ◌∷◌, ◌++◌, length, get_or, replicate, string_bytes, refl, sym, ap, ◌∙◌, subst, arith}
use Rattle.std.specs.Cmp.Lexicographic.{slice_cmp}
use Rattle.std.specs.List.{AllPairs}
use Rattle.std.specs.List.Sorted.{IsStrictlySortedBy}
use Rattle.std.specs.Map.{keys_of}
use Rattle.std.specs.Ordering.{nat_cmp, ordering_reverse}
use Rattle.std.specs.Str.{bytes_eq}
use Rattle.std.specs.declared.cmp.Ordering.TheVariants.{Less}
use Rattle.std.proofs.lemmas.Bool.{cases_eq, cases_lt}
use Rattle.std.proofs.lemmas.Cmp.{nat_list_cmp_total}
use Rattle.std.proofs.lemmas.List.{replicate-append-replicate}
use Rattle.std.proofs.lemmas.Map.Keys.{Less-from_sorted}
use Rattle.std.proofs.lemmas.Nat.{div-add-mod', div-mul-add, mod-mul-add}
use Rattle.std.proofs.lemmas.Slice.Eq.{bytes_eq-Decides}
use Rattle.std.proofs.Math.Nat.{mul-le-mul_right, div-lt_iff_lt-mul, mod-lt}
use Rattle.price_core.specs.Limits.{limits_view}
use Rattle.price_core.specs.declared.totals.Limit.{Limit}
use Rattle.rule_switches.specs.Runs.{Run}
use Rattle.rule_switches.specs.Table.{is_of_place, name_of}

pub below : (w i j : ℕ) → i < w → j < w → i * w + j < w * w
below w i j from to =
    let next : i + 1 ≤ w = omega (arith, from) in
    let most : (i + 1) * w ≤ w * w = mul-le-mul_right w next in
    let spread : (i + 1) * w ≡ i * w + w = omega arith in
    omega (arith, most, spread, to)

pub row_more : {X : Type 0} (i w : ℕ) (x : X) → replicate (i * w) x ++ replicate w x ≡ replicate ((i + 1) * w) x
row_more i w x =
    let spread : i * w + w ≡ (i + 1) * w = omega arith in
    replicate-append-replicate (i * w) w x ∙ ap (λ n. replicate n x) spread

pub key_at : (xs : List Limit) (i : ℕ) (d : Limit) → i < length xs → name_of (keys_of (limits_view xs)) i ≡ string_bytes (get_or xs i d).name
key_at [] i d low = absurd (omega (arith, low))
key_at (x ∷ xs) zero d low = refl
key_at (x ∷ xs) (suc i) d low = key_at xs i d (omega (arith, low))

pub apart : (names : List (List ℕ)) → IsStrictlySortedBy (slice_cmp nat_cmp) names → AllPairs (λ x y. x ≢ y) names
apart names rise = λ i j d low high same.
    let x = get_or names i d in
    let less : slice_cmp nat_cmp x (get_or names j d) ≡ Less = Less-from_sorted (slice_cmp nat_cmp) names i j d rise low high in
    let itself : slice_cmp nat_cmp x x ≡ Less = subst (λ y. slice_cmp nat_cmp x y ≡ Less) (sym same) less in
    let back = nat_list_cmp_total.antisymm x x ∙ ap ordering_reverse itself in
    cc

-- names that differ stand at different places
pub one_place : (names : List (List ℕ)) (i j : ℕ) → AllPairs (λ x y. x ≢ y) names → i < length names → j < length names → name_of names i ≡ name_of names j → i ≡ j
one_place names i j pairs first second same =
    ⊎_elim (λ (e : i ≡ j). e) (λ ne.
    ⊎_elim (λ (low : i < j). absurd (pairs i j [] low second same)) (λ (high : j ≤ i). absurd (pairs j i [] (omega (arith, high, ne)) first (sym same))) (cases_lt i j))
    (cases_eq i j)

row_below : (w c : ℕ) → c < w * w → c / w < w
row_below w c low = (div-lt_iff_lt-mul (some w c low)).1 low
  where
    some : (w c : ℕ) → c < w * w → 0 < w
    some zero c low = absurd (omega (arith, low))
    some (suc w) c low = omega arith

column_below : (w c : ℕ) → c < w * w → c % w < w
column_below zero c low = absurd (omega (arith, low))
column_below (suc w) c low = mod-lt c (omega arith)

same_bytes : (a b : List ℕ) → bytes_eq a b ≡ true → a ≡ b
same_bytes a b h = (bytes_eq-Decides a b).0 h

both_true : (a b : Bool) → (a && b) ≡ true → (a ≡ true) × (b ≡ true)
both_true true true e = (refl, refl)
both_true true false e = absurd cc
both_true false b e = absurd cc

by_test : (b : Bool) → (b ≡ true → ⊥) → b ≡ false
by_test true = λ no. absurd (no refl)
by_test false = λ no. refl

-- the names of the place are those of the run
named_there : (names : List (List ℕ)) (c : ℕ) (r : Run) → is_of_place names c r ≡ true → (r.from ≡ name_of names (c / length names)) × (r.to ≡ name_of names (c % length names))
named_there names c r is =
    let parts = both_true (bytes_eq r.from (name_of names (c / length names))) (bytes_eq r.to (name_of names (c % length names))) is in
    (same_bytes r.from (name_of names (c / length names)) parts.0, same_bytes r.to (name_of names (c % length names)) parts.1)

pub unknown_from : (names : List (List ℕ)) (r : Run) → ((i : ℕ) → i < length names → name_of names i ≢ r.from) → (c : ℕ) → c < length names * length names → is_of_place names c r ≡ false
unknown_from names r none c low =
    by_test (is_of_place names c r) (λ is. none (c / length names) (row_below (length names) c low) (sym (named_there names c r is).0))

pub unknown_to : (names : List (List ℕ)) (r : Run) → ((i : ℕ) → i < length names → name_of names i ≢ r.to) → (c : ℕ) → c < length names * length names → is_of_place names c r ≡ false
unknown_to names r none c low =
    by_test (is_of_place names c r) (λ is. none (c % length names) (column_below (length names) c low) (sym (named_there names c r is).1))

-- the run's own place, and every other one
pub elsewhere : (names : List (List ℕ)) (r : Run) (i j c : ℕ) → AllPairs (λ x y. x ≢ y) names → i < length names → j < length names → name_of names i ≡ r.from → name_of names j ≡ r.to
    → c < length names * length names → c ≢ i * length names + j → is_of_place names c r ≡ false
elsewhere names r i j c pairs first second from to low other =
    let w = length names in
    by_test (is_of_place names c r) (λ is.
    let there = named_there names c r is in
    let row : c / w ≡ i = one_place names (c / w) i pairs (row_below w c low) first (sym there.0 ∙ sym from) in
    let column : c % w ≡ j = one_place names (c % w) j pairs (column_below w c low) second (sym there.1 ∙ sym to) in
    other (sym (div-add-mod' c w) ∙ ap (λ n. n * w + c % w) row ∙ ap (λ n. i * w + n) column))

pub own_place : (names : List (List ℕ)) (r : Run) (i j : ℕ) → j < length names → name_of names i ≡ r.from → name_of names j ≡ r.to → is_of_place names (i * length names + j) r ≡ true
own_place names r i j second from to =
    let w = length names in
    let row : (i * w + j) / w ≡ i = div-mul-add i w j second in
    let column : (i * w + j) % w ≡ j = mod-mul-add i w j second in
    let first : bytes_eq r.from (name_of names i) ≡ true = (bytes_eq-Decides r.from (name_of names i)).1 (sym from) in
    let last : bytes_eq r.to (name_of names j) ≡ true = (bytes_eq-Decides r.to (name_of names j)).1 (sym to) in
    rw (row, column, first, last)

pub long_keys : (xs : List Limit) → length (keys_of (limits_view xs)) ≡ length xs
long_keys [] = refl
long_keys (x ∷ xs) = ap suc (long_keys xs)

pub next_differs : (names : List (List ℕ)) (name : List ℕ) (i : ℕ) → ((k : ℕ) → k < i → name_of names k ≢ name) → name_of names i ≢ name → (k : ℕ) → k < i + 1 → name_of names k ≢ name
next_differs names name i before here k low = λ same.
    ⊎_elim (λ (e : k ≡ i). here (sym (ap (name_of names) e) ∙ same)) (λ ne. before k (omega (arith, low, ne)) same) (cases_eq k i)
