-- The number that digits spell.
use Rattle.std.proofs.Common.{◌≡◌, ◌≤◌, ◌<◌, ℕ, zero, suc, ◌+◌, ◌*◌, ◌-◌, ◌^◌, Bool, true, false, List, [], ◌∷◌, ◌++◌, length, refl, ap, ap₂, sym, ◌∙◌, arith, inl, inr, leb, leb-true, le-leb, eqb-true, mul_assoc, mul-le-mul_right, pow-add}
use Rattle.std.proofs.lemmas.Bool.{cases_Bool, cases_order}
use Rattle.std.proofs.Math.Nat.{pow-succ', pow-zero, add-mul, mul-lt-mul_of_pos_right, one-le-pow}
use Rattle.std.proofs.lemmas.Str.{digit_value_digit}
use Rattle.std.proofs.lemmas.Str.Parse.{digit_from_value}
use Rattle.std.proofs.lemmas.Int.Digits.{digits_value-lt}
use Rattle.std.specs.Char.{digit_value, is_ascii_digit}
use Rattle.std.specs.List.{list_all}
use Rattle.std.specs.Str.Parse.{AllDigits, digits_value, digits_value_after}
use Rattle.std.specs.Prelude.{◌==◌, ◌&&◌, if◌then◌else◌}
use Rattle.logic_values.specs.Decimal.{led_by, significant, trailing_zeros, without_leading_zeros, without_trailing_zeros}
use Rattle.logic_values.proofs.Zeros.{last_counts, left, rest_kept, right}

value_after : (n : ℕ) (cs : List ℕ) → digits_value_after 10 n cs ≡ n * 10 ^ length cs + digits_value 10 cs
value_after n [] = omega (arith, ap (λ x. n * x) (pow-zero 10))
value_after n (c ∷ cs) =
    let z : 0 * 10 + digit_value c ≡ digit_value c = omega arith in
    let here = value_after (n * 10 + digit_value c) cs in
    let alone = value_after (0 * 10 + digit_value c) cs ∙ ap (λ x. x * 10 ^ length cs + digits_value 10 cs) z in
    let split = add-mul (n * 10) (digit_value c) (10 ^ length cs) in
    let up = ap (λ x. n * x) (pow-succ' 10 (length cs)) in
    omega (arith, here, alone, split, up, mul_assoc n 10 (10 ^ length cs))

pub value_cons : (c : ℕ) (cs : List ℕ) → digits_value 10 (c ∷ cs) ≡ digit_value c * 10 ^ length cs + digits_value 10 cs
value_cons c cs =
    let z : 0 * 10 + digit_value c ≡ digit_value c = omega arith in
    value_after (0 * 10 + digit_value c) cs ∙ ap (λ x. x * 10 ^ length cs + digits_value 10 cs) z

-- a digit's value and its code
pub code_of : (c : ℕ) → digit_value c < 10 → digit_value c + 48 ≡ c
code_of c h = digit_value_digit c (digit_from_value c h)

value_of_zero : (d : ℕ) → (d == 48) ≡ true → digit_value d ≡ 0
value_of_zero d t = ap digit_value (eqb-true d 48 t)

-- zeros at the beginning are worth nothing
pub leading_value : (ds : List ℕ) → digits_value 10 (without_leading_zeros ds) ≡ digits_value 10 ds
leading_value [] = refl
leading_value (d ∷ ds) = elim (cases_Bool (d == 48)) [
  | inl t ↦
      let v = value_cons d ds ∙ ap (λ x. x * 10 ^ length ds + digits_value 10 ds) (value_of_zero d t) in
      rw t (omega (arith, v, leading_value ds))
  | inr f ↦ rw f refl
]

-- each zero at the end is worth a power of ten
IsScaled : List ℕ → List ℕ → Type 0
IsScaled ws ds = (length ws ≤ length ds) × (digits_value 10 ds ≡ digits_value 10 ws * 10 ^ (length ds - length ws))

one_more : (d : ℕ) (ds ws : List ℕ) → IsScaled ws ds → IsScaled (led_by d ws) (d ∷ ds)
unfolding IsScaled
one_more d ds [] h = elim (cases_Bool (d == 48)) [
  | inl t ↦
      let v = value_cons d ds ∙ ap (λ x. x * 10 ^ length ds + digits_value 10 ds) (value_of_zero d t) in
      rw t (omega arith, omega (arith, v, h.1))
  | inr f ↦
      let v = value_cons d ds in
      let w = value_cons d [] in
      let k : suc (length ds) - 1 ≡ length ds = omega arith in
      let p = ap (λ n. digits_value 10 (d ∷ []) * 10 ^ n) k in
      let q = ap (λ x. x * 10 ^ length ds) w in
      let u = ap (λ x. digit_value d * x) (pow-zero 10) in
      let q2 : (digit_value d * 10 ^ 0 + 0) * 10 ^ length ds ≡ digit_value d * 10 ^ length ds = ap (λ x. x * 10 ^ length ds) (omega (arith, u)) in
      rw f (omega arith, omega (arith, v, h.1, p, q, q2))
]
one_more d ds (w ∷ ws) h =
    let same : suc (length ds) - suc (suc (length ws)) ≡ length ds - suc (length ws) = omega arith in
    let whole : suc (length ws) + (length ds - suc (length ws)) ≡ length ds = omega (arith, h.0) in
    let up : 10 ^ length ds ≡ 10 ^ suc (length ws) * 10 ^ (length ds - suc (length ws)) = ap (λ n. 10 ^ n) (sym whole) ∙ pow-add 10 (suc (length ws)) (length ds - suc (length ws)) in
    let v = value_cons d ds in
    let u = value_cons d (w ∷ ws) in
    let split = add-mul (digit_value d * 10 ^ suc (length ws)) (digits_value 10 (w ∷ ws)) (10 ^ (length ds - suc (length ws))) in
    let p = ap (λ x. x * 10 ^ (length ds - suc (length ws))) u in
    let r = ap (λ n. digits_value 10 (d ∷ w ∷ ws) * 10 ^ n) same in
    let s = mul_assoc (digit_value d) (10 ^ suc (length ws)) (10 ^ (length ds - suc (length ws))) in
    let t = ap (λ x. digit_value d * x) up in
    (omega (arith, h.0), omega (arith, v, h.1, split, p, r, s, t))

scaled : (ds : List ℕ) → IsScaled (without_trailing_zeros ds) ds
unfolding IsScaled
scaled [] = (omega arith, omega arith)
scaled (d ∷ ds) = one_more d ds (without_trailing_zeros ds) (scaled ds)

pub trailing_shorter : (ds : List ℕ) → length (without_trailing_zeros ds) ≤ length ds
unfolding IsScaled
trailing_shorter ds = (scaled ds).0

-- the significant digits, and the zeros behind them
pub significant_value : (ds : List ℕ) → digits_value 10 ds ≡ digits_value 10 (significant ds) * 10 ^ trailing_zeros ds
unfolding IsScaled
significant_value ds = (scaled ds).1 ∙ ap (λ x. x * 10 ^ trailing_zeros ds) (sym (leading_value (without_trailing_zeros ds)))

-- ---- the places of a number

-- a number with so many zeros behind it, by its first digit
pub first_place : (c : ℕ) (cs : List ℕ) (m : ℕ) → digits_value 10 (c ∷ cs) * 10 ^ m ≡ digit_value c * 10 ^ (length cs + m) + digits_value 10 cs * 10 ^ m
first_place c cs m =
    let v = ap (λ x. x * 10 ^ m) (value_cons c cs) in
    let s = add-mul (digit_value c * 10 ^ length cs) (digits_value 10 cs) (10 ^ m) in
    let a = mul_assoc (digit_value c) (10 ^ length cs) (10 ^ m) in
    let p = ap (λ x. digit_value c * x) (pow-add 10 (length cs) m) in
    omega (arith, v, s, a, p)

pub ten_pos : (m : ℕ) → 0 < 10 ^ m
ten_pos m = one-le-pow m 10 (omega arith)

-- it is below the power of ten of its places
pub below_places : (cs : List ℕ) (m : ℕ) → AllDigits 10 cs → digits_value 10 cs * 10 ^ m < 10 ^ (length cs + m)
below_places cs m h =
    let k : digits_value 10 cs * 10 ^ m < 10 ^ length cs * 10 ^ m = mul-lt-mul_of_pos_right (digits_value-lt 10 cs h) (ten_pos m) in
    omega (arith, k, pow-add 10 (length cs) m)

-- and at least that of its first place, where its first digit is no zero
pub above_first_place : (c : ℕ) (cs : List ℕ) (m : ℕ) → 1 ≤ digit_value c → 10 ^ (length cs + m) ≤ digits_value 10 (c ∷ cs) * 10 ^ m
above_first_place c cs m h =
    let e = first_place c cs m in
    let k = mul-le-mul_right (10 ^ (length cs + m)) h in
    omega (arith, e, k)

pub counts : (d : ℕ) → digit_value d < 10 → (d ≡ 48 → ⊥) → 1 ≤ digit_value d
counts d h n = elim (cases_order 0 (digit_value d)) [
  | inl e ↦ absurd (n (omega (arith, e, code_of d h)))
  | inr o ↦ elim o [ inl l ↦ l | inr g ↦ absurd (omega (arith, g)) ]
]

-- digits by the test of bytes
pub digits_by_test : (ds : List ℕ) → list_all is_ascii_digit ds ≡ true → AllDigits 10 ds
digits_by_test [] h = tt
digits_by_test (d ∷ ds) h =
    let t = left (is_ascii_digit d) (list_all is_ascii_digit ds) h in
    let low : 48 ≤ d = leb-true 48 d (left (leb 48 d) (leb d 57) t) in
    let high : d ≤ 57 = leb-true d 57 (right (leb 48 d) (leb d 57) t) in
    let v = digit_value_digit d (low, high) in
    (omega (arith, v, high), digits_by_test ds (right (is_ascii_digit d) (list_all is_ascii_digit ds) h))

pub tested_digits : (ds : List ℕ) → AllDigits 10 ds → list_all is_ascii_digit ds ≡ true
tested_digits [] h = refl
tested_digits (d ∷ ds) h =
    let r = digit_from_value d h.0 in
    let low : leb 48 d ≡ true = le-leb 48 d r.0 in
    let high : leb d 57 ≡ true = le-leb d 57 r.1 in
    ap₂ ◌&&◌ (ap₂ ◌&&◌ low high) (tested_digits ds h.1)

-- digits that end with no zero are worth something
pub is_positive : (d : ℕ) (ds : List ℕ) → AllDigits 10 (d ∷ ds) → without_trailing_zeros (d ∷ ds) ≡ d ∷ ds → 0 < digits_value 10 (d ∷ ds)
is_positive d [] a h = let v = value_cons d [] in let k = counts d a.0 (last_counts d h) in omega (arith, v, k, ap (λ x. digit_value d * x) (pow-zero 10))
is_positive d (e ∷ es) a h = let v = value_cons d (e ∷ es) in let k = is_positive e es a.1 (rest_kept d (e ∷ es) h) in omega (arith, v, k)
