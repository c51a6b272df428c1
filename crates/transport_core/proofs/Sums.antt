-- Sums of whole numbers: by parts, term by term, and as sums of naturals.
use Rattle.std.proofs.Common.{◌≡◌, ℕ, zero, suc, ◌+◌, ◌<◌, ◌≤◌, ℤ, pos, ◌+ℤ◌, ◌≤ℤ◌, neg_ℤ, List, [], ◌∷◌, ◌++◌, length, map, sum_by, Some, refl, ap, ◌∙◌, arith}
use Rattle.std.proofs.lemmas.Int.{ints}
use Rattle.std.proofs.lemmas.List.Sums.{sum_by-cons}
use Rattle.std.specs.List.{range_with_len, slice_get}
use Rattle.transport_core.specs.Sum.{sum_z}

pub sum_z-plus : {X : Type 0} (f g : X → ℤ) (xs : List X) → sum_z (λ x. f x +ℤ g x) xs ≡ sum_z f xs +ℤ sum_z g xs
sum_z-plus f g [] = refl
sum_z-plus f g (x ∷ xs) = omega (arith, ints, sum_z-plus f g xs)

pub sum_z-append : {X : Type 0} (f : X → ℤ) (xs ys : List X) → sum_z f (xs ++ ys) ≡ sum_z f xs +ℤ sum_z f ys
sum_z-append f [] ys = omega (arith, ints)
sum_z-append f (x ∷ xs) ys = omega (arith, ints, sum_z-append f xs ys)

pub sum_z-map : {X Y : Type 0} (f : Y → ℤ) (h : X → Y) (xs : List X) → sum_z f (map h xs) ≡ sum_z (λ x. f (h x)) xs
sum_z-map f h [] = refl
sum_z-map f h (x ∷ xs) = ap (λ k. f (h x) +ℤ k) (sum_z-map f h xs)

pub sum_z-same : {X : Type 0} (f g : X → ℤ) (xs : List X) → ((x : X) → f x ≡ g x) → sum_z f xs ≡ sum_z g xs
sum_z-same f g [] same = refl
sum_z-same f g (x ∷ xs) same = omega (arith, ints, same x, sum_z-same f g xs same)

pub sum_z-zero : {X : Type 0} (xs : List X) → sum_z (λ (x : X). pos 0) xs ≡ pos 0
sum_z-zero [] = refl
sum_z-zero (x ∷ xs) = omega (arith, ints, sum_z-zero xs)

-- a sum of naturals
pub sum_z-pos : {X : Type 0} (f : X → ℕ) (xs : List X) → sum_z (λ x. pos (f x)) xs ≡ pos (sum_by f xs)
sum_z-pos f [] = refl
sum_z-pos f (x ∷ xs) = omega (arith, ints, sum_z-pos f xs, sum_by-cons f x xs)

-- term by term, over the places of two lists
pub sum_z-range : {X : Type 0} (f : ℕ → ℤ) (g : X → ℤ) (a : ℕ) (xs : List X) → ((k : ℕ) (x : X) → slice_get xs k ≡ Some x → f (a + k) ≡ g x) → sum_z f (range_with_len a (length xs)) ≡ sum_z g xs
sum_z-range f g a [] same = refl
sum_z-range f g a (x ∷ xs) same =
    let here : f a ≡ g x = ap f (omega arith) ∙ same 0 x refl in
    let rest = sum_z-range f g (a + 1) xs (λ k y is. ap f (omega arith) ∙ same (suc k) y is) in
    omega (arith, ints, here, rest)

pub sum_z-le_range : (f g : ℕ → ℤ) (a n : ℕ) → ((p : ℕ) → a ≤ p → p < a + n → f p ≤ℤ g p) → sum_z f (range_with_len a n) ≤ℤ sum_z g (range_with_len a n)
sum_z-le_range f g a zero le = omega (arith, ints)
sum_z-le_range f g a (suc n) le =
    let rest = sum_z-le_range f g (a + 1) n (λ p from to. le p (omega arith) (omega arith)) in
    omega (arith, ints, le a (omega arith) (omega arith), rest)

pub sum_z-le : {X : Type 0} (f g : X → ℤ) (xs : List X) → ((k : ℕ) (x : X) → slice_get xs k ≡ Some x → f x ≤ℤ g x) → sum_z f xs ≤ℤ sum_z g xs
sum_z-le f g [] le = omega (arith, ints)
sum_z-le f g (x ∷ xs) le = omega (arith, ints, le 0 x refl, sum_z-le f g xs (λ k. le (suc k)))

pub sum_z-neg : {X : Type 0} (f : X → ℤ) (xs : List X) → sum_z (λ x. neg_ℤ (f x)) xs ≡ neg_ℤ (sum_z f xs)
sum_z-neg f [] = refl
sum_z-neg f (x ∷ xs) = omega (arith, ints, sum_z-neg f xs)
