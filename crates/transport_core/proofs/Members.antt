-- Members of lists by their places, look-ups at them, and lists of rising keys with the same members.
use Rattle.std.proofs.Common.{◌≡◌, ⊎_elim, ℕ, zero, suc, ◌<◌, List, [], ◌∷◌, length, get_or, Bool, true, false, Some, Ordering, refl, sym, ap, ◌∙◌, subst, arith}
use Rattle.std.specs.Cmp.{IsTotalOrder}
use Rattle.std.specs.List.{AllByRecursion, Contains, slice_get}
use Rattle.std.specs.List.Sorted.{IsStrictlySortedBy}
use Rattle.std.specs.Map.{keys_of, lookup}
use Rattle.std.specs.declared.cmp.Ordering.TheVariants.{Less}
use Rattle.std.proofs.lemmas.Bool.{cases_Bool, cond-true, cond-false, false_from_ne_true}
use Rattle.std.proofs.lemmas.Map.Keys.{sorted_head, sorted_tail}
use Rattle.std.proofs.lemmas.Option.{slice_get_read, get_or_from_slice_get}
use Rattle.transport_core.proofs.Keys.{not_below_itself, all_at, get-map}

-- x stands at a place of the list
abbrev pub Stands : {X : Type 0} → List X → X → Type 0
Stands xs x = (i : ℕ) × (slice_get xs i ≡ Some x)

pub place_below : {X : Type 0} (xs : List X) (i : ℕ) (x : X) → slice_get xs i ≡ Some x → i < length xs
place_below [] i x is = cc
place_below (y ∷ ys) zero x is = omega arith
place_below (y ∷ ys) (suc i) x is = omega (arith, place_below ys i x is)

pub contains_from_place : {X : Type 0} (xs : List X) (x : X) → Stands xs x → Contains xs x
contains_from_place xs x s = (s.0, place_below xs s.0 x s.1, get_or_from_slice_get xs s.0 x x s.1)

pub place_from_contains : {X : Type 0} (xs : List X) (x : X) → Contains xs x → Stands xs x
place_from_contains xs x c = (c.0, slice_get_read xs (length xs) c.0 x refl c.1 (sym c.2))

module _ {K : Type 0} (same : K → K → Bool) (only : (a b : K) → same a b ≡ true → a ≡ b) (self : (k : K) → same k k ≡ true) where
  -- what a look-up finds stands there
  pub found_place : {V : Type 0} (es : List (K × V)) (key : K) (v : V) → lookup (same key) es ≡ Some v → Stands (keys_of es) key
  found_place [] key v found = cc
  found_place (e ∷ es) key v found =
      ⊎_elim
      (λ (ties : same key e.0 ≡ true). (0, ap Some (sym (only key e.0 ties))))
      (λ (apart : same key e.0 ≡ false). let rest = found_place es key v (sym (cond-false (same key e.0) (Some e.1) (lookup (same key) es) apart) ∙ found) in (suc (rest.0), rest.1))
      (cases_Bool (same key e.0))

  -- where keys rise, a look-up finds what stands there
  pub lookup_place : {V : Type 0} (R : K → K → Ordering) (order : IsTotalOrder R) (es : List (K × V)) (k : ℕ) (e : K × V) → IsStrictlySortedBy R (keys_of es) → slice_get es k ≡ Some e → lookup (same e.0) es ≡ Some e.1
  lookup_place R order [] k e rise is = cc
  lookup_place R order (x ∷ es) zero e rise is =
      let here : x ≡ e = cc in
      let ties : same e.0 x.0 ≡ true = ap (λ y. same e.0 y.0) here ∙ self e.0 in
      cond-true (same e.0 x.0) (Some x.1) (lookup (same e.0) es) ties ∙ ap (λ y. Some y.1) here
  lookup_place R order (x ∷ es) (suc k) e rise is =
      let below : R x.0 e.0 ≡ Less = all_at (λ y. R x.0 y ≡ Less) (keys_of es) k e.0 (sorted_head R x.0 (keys_of es) rise) (get-map (λ y. y.0) es k e is) in
      let P : K → Type 0 = λ y. R y e.0 ≡ Less in
      let apart : same e.0 x.0 ≡ false = false_from_ne_true (same e.0 x.0) (λ h. not_below_itself order e.0 (subst P (sym (only e.0 x.0 h)) below)) in
      cond-false (same e.0 x.0) (Some x.1) (lookup (same e.0) es) apart ∙ lookup_place R order es k e (sorted_tail R x.0 (keys_of es) rise) is

-- a key that stands has an entry
pub entry_place : {K V : Type 0} (es : List (K × V)) (i : ℕ) (key : K) → slice_get (keys_of es) i ≡ Some key → (e : K × V) × (slice_get es i ≡ Some e) × (e.0 ≡ key)
entry_place [] i key is = cc
entry_place (e ∷ es) zero key is = (e, refl, cc)
entry_place (e ∷ es) (suc i) key is = entry_place es i key is

-- ---- rising lists with the same members are equal

first_by : {K : Type 0} (R : K → K → Ordering) (order : IsTotalOrder R) (x y : K) (xs ys : List K) → AllByRecursion (λ z. R x z ≡ Less) xs → AllByRecursion (λ z. R y z ≡ Less) ys → Stands (y ∷ ys) x → Stands (x ∷ xs) y → x ≡ y
first_by R order x y xs ys xs_above ys_above (zero, is) s = cc
first_by R order x y xs ys xs_above ys_above (suc i, is) (zero, at) = cc
first_by R order x y xs ys xs_above ys_above (suc i, is) (suc j, at) =
    let down : R y x ≡ Less = all_at (λ z. R y z ≡ Less) ys i x ys_above is in
    let up : R x y ≡ Less = all_at (λ z. R x z ≡ Less) xs j y xs_above at in
    absurd (not_below_itself order x (order.trans x y x up down))

behind_by : {K : Type 0} (R : K → K → Ordering) (order : IsTotalOrder R) (x y : K) (ys : List K) (z : K) → x ≡ y → R x z ≡ Less → Stands (y ∷ ys) z → Stands ys z
behind_by {K} R order x y ys z heads above (zero, is) =
    let here : x ≡ z = cc in
    let P : K → Type 0 = λ k. R k z ≡ Less in
    absurd (not_below_itself order z (subst P here above))
behind_by R order x y ys z heads above (suc i, is) = (i, is)

behind : {K : Type 0} (R : K → K → Ordering) (order : IsTotalOrder R) (x y : K) (xs ys : List K) → x ≡ y → AllByRecursion (λ z. R x z ≡ Less) xs → ((z : K) → Stands (x ∷ xs) z → Stands (y ∷ ys) z) → (z : K) → Stands xs z → Stands ys z
behind R order x y xs ys heads above within z s = behind_by R order x y ys z heads (all_at (λ k. R x k ≡ Less) xs s.0 z above s.1) (within z (suc (s.0), s.1))

pub sorted_unique : {K : Type 0} (R : K → K → Ordering) (order : IsTotalOrder R) (xs ys : List K) → IsStrictlySortedBy R xs → IsStrictlySortedBy R ys → ((z : K) → Stands xs z → Stands ys z) → ((z : K) → Stands ys z → Stands xs z) → xs ≡ ys
sorted_unique R order [] [] xs_rise ys_rise to from = refl
sorted_unique R order [] (y ∷ ys) xs_rise ys_rise to from = let none = from y (0, refl) in cc
sorted_unique R order (x ∷ xs) [] xs_rise ys_rise to from = let none = to x (0, refl) in cc
sorted_unique {K} R order (x ∷ xs) (y ∷ ys) xs_rise ys_rise to from =
    let xs_above = sorted_head R x xs xs_rise in
    let ys_above = sorted_head R y ys ys_rise in
    let heads : x ≡ y = first_by R order x y xs ys xs_above ys_above (to x (0, refl)) (from y (0, refl)) in
    let rest = sorted_unique R order xs ys (sorted_tail R x xs xs_rise) (sorted_tail R y ys ys_rise) (behind R order x y xs ys heads xs_above to) (behind R order y x ys xs (sym heads) ys_above from) in
    ap (λ (k : K). k ∷ xs) heads ∙ ap (λ ks. y ∷ ks) rest

-- below its length a list has one element at a place, whatever is read past it
pub any_default : {X : Type 0} (xs : List X) (i : ℕ) (d e : X) → i < length xs → get_or xs i d ≡ get_or xs i e
any_default [] i d e below = absurd (omega arith)
any_default (x ∷ xs) zero d e below = refl
any_default (x ∷ xs) (suc i) d e below = any_default xs i d e (omega arith)
