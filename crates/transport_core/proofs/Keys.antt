-- Lists whose keys rise: each key stands once, and a look-up finds its entry.
use Rattle.std.proofs.Common.{◌≡◌, ⊎_elim, ℕ, zero, suc, ◌+◌, ◌<◌, List, [], ◌∷◌, map, Bool, true, false, cond, ◌||◌, Option, Some, None, unwrap_or, is_some, count_by, Ordering, refl, sym, ap, ◌∙◌, subst, arith}
use Rattle.std.specs.Cmp.{IsTotalOrder}
use Rattle.std.specs.Cmp.Lexicographic.{slice_cmp}
use Rattle.std.specs.List.{AllByRecursion, Contains, list_any, slice_get}
use Rattle.std.specs.List.Sorted.{IsStrictlySortedBy}
use Rattle.std.specs.Map.{keys_of, lookup}
use Rattle.std.specs.Ordering.{nat_cmp, ordering_reverse}
use Rattle.std.specs.Str.{bytes_eq}
use Rattle.std.specs.declared.cmp.Ordering.TheVariants.{Less, Greater}
use Rattle.std.proofs.lemmas.Bool.{cases_Bool, or_cases, cond-true, cond-false, false_from_ne_true}
use Rattle.std.proofs.lemmas.Cmp.{nat_list_cmp_total}
use Rattle.std.proofs.lemmas.List.Sums.{sum_by-cons}
use Rattle.std.proofs.lemmas.Map.Keys.{sorted_head, sorted_tail}
use Rattle.std.proofs.lemmas.Map.Made.{is_some-lookup}
use Rattle.std.proofs.lemmas.Slice.Eq.{bytes_eq-Decides}
use Rattle.price_core.specs.Limits.{Limits, high_of}

-- no key is below itself
not_reversed : (o : Ordering) → o ≡ ordering_reverse o → o ≡ Less → ⊥
not_reversed o reversed less =
    let turned : Less ≡ Greater = sym less ∙ (reversed ∙ ap ordering_reverse less) in
    cc

pub not_below_itself : {K : Type 0} {R : K → K → Ordering} → IsTotalOrder R → (x : K) → R x x ≡ Less → ⊥
not_below_itself {K} {R} order x less = not_reversed (R x x) (order.antisymm x x) less

none_after : {K D : Type 0} (R : K → K → Ordering) (order : IsTotalOrder R) (key : D → K) (here : K → Bool) (x : K) (only : (k : K) → here k ≡ true → k ≡ x) (ds : List D)
    → AllByRecursion (λ y. R x y ≡ Less) (map key ds) → count_by (λ d. here (key d)) ds ≡ 0
none_after R order key here x only [] below = refl
none_after {K} R order key here x only (d ∷ ds) below =
    let P : K → Type 0 = λ y. R x y ≡ Less in
    let passes : here (key d) ≡ true → ⊥ = λ h. not_below_itself order x (subst P (only (key d) h) below.0) in
    sum_by-cons (λ e. cond (here (key e)) 1 0) d ds ∙ (ap (λ b. cond b 1 0 + count_by (λ e. here (key e)) ds) (false_from_ne_true (here (key d)) passes) ∙ omega (arith, none_after R order key here x only ds below.1))

pub once_in_sorted : {K D : Type 0} (R : K → K → Ordering) (order : IsTotalOrder R) (key : D → K) (here : K → Bool) (x : K) (only : (k : K) → here k ≡ true → k ≡ x) (ds : List D)
    → IsStrictlySortedBy R (map key ds) → list_any here (map key ds) ≡ true → count_by (λ d. here (key d)) ds ≡ 1
once_in_sorted R order key here x only [] rise some = cc
once_in_sorted {K} R order key here x only (d ∷ ds) rise some =
    let cons = sum_by-cons (λ e. cond (here (key e)) 1 0) d ds in
    let tail : ℕ = count_by (λ e. here (key e)) ds in
    ⊎_elim
    (λ (h : here (key d) ≡ true).
    let Q : K → Type 0 = λ k. AllByRecursion (λ y. R k y ≡ Less) (map key ds) in
    cons ∙ (ap (λ b. cond b 1 0 + tail) h ∙ ap (λ n. 1 + n) (none_after R order key here x only ds (subst Q (only (key d) h) (sorted_head R (key d) (map key ds) rise)))))
    (λ (h : here (key d) ≡ false).
    let later : list_any here (map key ds) ≡ true = ap (λ b. b || list_any here (map key ds)) (sym h) ∙ some in
    cons ∙ (ap (λ b. cond b 1 0 + tail) h ∙ ap (λ n. 0 + n) (once_in_sorted R order key here x only ds (sorted_tail R (key d) (map key ds) rise) later)))
    (cases_Bool (here (key d)))

-- ---- by places

pub all_at : {X : Type 0} (P : X → Type 0) (xs : List X) (k : ℕ) (x : X) → AllByRecursion P xs → slice_get xs k ≡ Some x → P x
all_at P [] k x all is = cc
all_at P (y ∷ ys) zero x all is =
    let same : y ≡ x = cc in
    subst P same all.0
all_at P (y ∷ ys) (suc k) x all is = all_at P ys k x all.1 is

pub get-map : {X Y : Type 0} (f : X → Y) (xs : List X) (k : ℕ) (x : X) → slice_get xs k ≡ Some x → slice_get (map f xs) k ≡ Some (f x)
get-map f [] k x is = cc
get-map f (y ∷ ys) zero x is =
    let same : y ≡ x = cc in
    ap (λ z. Some (f z)) same
get-map f (y ∷ ys) (suc k) x is = get-map f ys k x is

-- ---- limits

pub lookup-at : {V : Type 0} (es : List (List ℕ × V)) (k : ℕ) (e : List ℕ × V) → IsStrictlySortedBy (slice_cmp nat_cmp) (keys_of es) → slice_get es k ≡ Some e → lookup (bytes_eq e.0) es ≡ Some e.1
lookup-at [] k e rise is = cc
lookup-at (x ∷ es) zero e rise is =
    let same : x ≡ e = cc in
    cond-true (bytes_eq e.0 x.0) (Some x.1) (lookup (bytes_eq e.0) es) ((bytes_eq-Decides e.0 x.0).1 (ap (λ y. y.0) (sym same))) ∙ ap (λ y. Some y.1) same
lookup-at (x ∷ es) (suc k) e rise is =
    let below : slice_cmp nat_cmp x.0 e.0 ≡ Less = all_at (λ y. slice_cmp nat_cmp x.0 y ≡ Less) (keys_of es) k e.0 (sorted_head (slice_cmp nat_cmp) x.0 (keys_of es) rise) (get-map (λ y. y.0) es k e is) in
    let P : List ℕ → Type 0 = λ y. slice_cmp nat_cmp y e.0 ≡ Less in
    let other : bytes_eq e.0 x.0 ≡ true → ⊥ = λ h. not_below_itself nat_list_cmp_total e.0 (subst P (sym ((bytes_eq-Decides e.0 x.0).0 h)) below) in
    cond-false (bytes_eq e.0 x.0) (Some x.1) (lookup (bytes_eq e.0) es) (false_from_ne_true (bytes_eq e.0 x.0) other) ∙ lookup-at es k e (sorted_tail (slice_cmp nat_cmp) x.0 (keys_of es) rise) is

pub limits_of-at : (ls : Limits) (k : ℕ) (l : List ℕ × (ℕ × ℕ)) → IsStrictlySortedBy (slice_cmp nat_cmp) (keys_of ls) → slice_get ls k ≡ Some l → lookup (bytes_eq l.0) ls ≡ Some l.1
limits_of-at ls k l rise is = lookup-at ls k l rise is

found_by : (name : List ℕ) (o : Option (ℕ × ℕ)) → 0 < (unwrap_or o (0, 0)).1 → is_some o ≡ true
found_by name None h = absurd (omega arith)
found_by name (Some l) h = refl

-- a text with a high limit is listed
pub listed : (ls : Limits) (name : List ℕ) → 0 < high_of ls name → list_any (bytes_eq name) (keys_of ls) ≡ true
listed ls name h = sym (is_some-lookup (bytes_eq name) ls) ∙ found_by name (lookup (bytes_eq name) ls) h

-- ---- members

pub contains_from_any : (xs : List (List ℕ)) (x : List ℕ) → list_any (bytes_eq x) xs ≡ true → Contains xs x
contains_from_any [] x some = cc
contains_from_any (y ∷ ys) x some =
    ⊎_elim
    (λ (h : bytes_eq x y ≡ true). (0, omega arith, sym ((bytes_eq-Decides x y).0 h)))
    (λ (h : list_any (bytes_eq x) ys ≡ true). let rest = contains_from_any ys x h in (suc (rest.0), omega (arith, rest.1), rest.2))
    (or_cases (bytes_eq x y) (list_any (bytes_eq x) ys) some)
