-- The order of numbers with signs, by the order of natural ones.
use Rattle.std.proofs.Common.{◌≡◌, ◌≤◌, ◌<◌, ℕ, zero, suc, ◌+◌, ◌*◌, ◌^◌, Bool, true, false, List, [], ◌∷◌, refl, ap, ap₂, sym, ◌∙◌, arith, inl, inr, pos, negsuc, neg_ℤ, nat_cmp, int_cmp, Ordering, Less, Equal, Greater, lt→ltb}
use Rattle.std.proofs.lemmas.Bool.{cases_order}
use Rattle.std.proofs.Math.Nat.{add-mul, mul-lt-mul_of_pos_right}
use Rattle.std.specs.Cmp.{int_cmp_is}
use Rattle.fast_float.specs.Text.{with_sign}
use Rattle.std.specs.Str.Parse.{digits_value}
use Rattle.logic_values.specs.Decimal.{IsNormal}
use Rattle.logic_values.proofs.Values.{digits_by_test, is_positive, ten_pos}
use Rattle.logic_values.proofs.Zeros.{not_both}
use Rattle.logic_values.proofs.Orders.{is_equal, is_greater, is_less}

-- a factor of both makes no difference
pub same_scaled : (x y k : ℕ) → 0 < k → nat_cmp (x * k) (y * k) ≡ nat_cmp x y
same_scaled x y k h = elim (cases_order x y) [
  | inl e ↦ is_equal (x * k) (y * k) (ap (λ i. i * k) e) ∙ sym (is_equal x y e)
  | inr o ↦ elim o [
    | inl l ↦ is_less (x * k) (y * k) (mul-lt-mul_of_pos_right l h) ∙ sym (is_less x y l)
    | inr g ↦ is_greater (x * k) (y * k) (mul-lt-mul_of_pos_right g h) ∙ sym (is_greater x y g)
  ]
]

pub both_plain : (x y : ℕ) → int_cmp (with_sign false x) (with_sign false y) ≡ nat_cmp x y
both_plain x y = elim (cases_order x y) [
  | inl e ↦ sym (int_cmp_is (pos x) (pos y) Equal (ap pos e)) ∙ sym (is_equal x y e)
  | inr o ↦ elim o [
    | inl l ↦ sym (int_cmp_is (pos x) (pos y) Less (record { lt = lt→ltb x y l })) ∙ sym (is_less x y l)
    | inr g ↦ sym (int_cmp_is (pos x) (pos y) Greater (record { lt = lt→ltb y x g })) ∙ sym (is_greater x y g)
  ]
]

pub both_negative : (x y : ℕ) → int_cmp (with_sign true x) (with_sign true y) ≡ nat_cmp y x
both_negative zero zero = sym (int_cmp_is (pos zero) (pos zero) Equal refl) ∙ sym (is_equal zero zero refl)
both_negative zero (suc y) = sym (int_cmp_is (pos zero) (negsuc y) Greater (record { lt = tt })) ∙ sym (is_greater (suc y) zero (omega arith))
both_negative (suc x) zero = sym (int_cmp_is (negsuc x) (pos zero) Less (record { lt = tt })) ∙ sym (is_less zero (suc x) (omega arith))
both_negative (suc x) (suc y) = elim (cases_order x y) [
  | inl e ↦ sym (int_cmp_is (negsuc x) (negsuc y) Equal (ap negsuc e)) ∙ sym (is_equal (suc y) (suc x) (ap suc (sym e)))
  | inr o ↦ elim o [
    | inl l ↦ sym (int_cmp_is (negsuc x) (negsuc y) Greater (record { lt = lt→ltb x y l })) ∙ sym (is_greater (suc y) (suc x) (omega (arith, l)))
    | inr g ↦ sym (int_cmp_is (negsuc x) (negsuc y) Less (record { lt = lt→ltb y x g })) ∙ sym (is_less (suc y) (suc x) (omega (arith, g)))
  ]
]

pub plain_negative : (x y : ℕ) → int_cmp (with_sign false x) (with_sign true y) ≡ nat_cmp (x + y) 0
plain_negative zero zero = sym (int_cmp_is (pos zero) (pos zero) Equal refl) ∙ sym (is_equal (zero + zero) 0 (omega arith))
plain_negative (suc x) zero = sym (int_cmp_is (pos (suc x)) (pos zero) Greater (record { lt = lt→ltb zero (suc x) (omega arith) })) ∙ sym (is_greater (suc x + zero) 0 (omega arith))
plain_negative x (suc y) = sym (int_cmp_is (pos x) (negsuc y) Greater (record { lt = tt })) ∙ sym (is_greater (x + suc y) 0 (omega arith))

pub negative_plain : (x y : ℕ) → int_cmp (with_sign true x) (with_sign false y) ≡ nat_cmp 0 (x + y)
negative_plain zero zero = sym (int_cmp_is (pos zero) (pos zero) Equal refl) ∙ sym (is_equal 0 (zero + zero) (omega arith))
negative_plain zero (suc y) = sym (int_cmp_is (pos zero) (pos (suc y)) Less (record { lt = lt→ltb zero (suc y) (omega arith) })) ∙ sym (is_less 0 (zero + suc y) (omega arith))
negative_plain (suc x) y = sym (int_cmp_is (negsuc x) (pos y) Less (record { lt = tt })) ∙ sym (is_less 0 (suc x + y) (omega arith))

-- a factor of both makes no difference, whatever their signs
pub signed_scaled : (s t : Bool) (x y k : ℕ) → 0 < k → int_cmp (with_sign s (x * k)) (with_sign t (y * k)) ≡ int_cmp (with_sign s x) (with_sign t y)
signed_scaled false false x y k h = both_plain (x * k) (y * k) ∙ same_scaled x y k h ∙ sym (both_plain x y)
signed_scaled true true x y k h = both_negative (x * k) (y * k) ∙ same_scaled y x k h ∙ sym (both_negative x y)
signed_scaled false true x y k h =
    let sum = ap₂ nat_cmp (sym (add-mul x y k)) (zero_by k) in
    plain_negative (x * k) (y * k) ∙ sum ∙ same_scaled (x + y) 0 k h ∙ sym (plain_negative x y)
  where
    zero_by : (k : ℕ) → 0 ≡ 0 * k
    zero_by k = omega arith
signed_scaled true false x y k h =
    let sum = ap₂ nat_cmp (zero_by k) (sym (add-mul x y k)) in
    negative_plain (x * k) (y * k) ∙ sum ∙ same_scaled 0 (x + y) k h ∙ sym (negative_plain x y)
  where
    zero_by : (k : ℕ) → 0 ≡ 0 * k
    zero_by k = omega arith

-- a negative number is not zero
some_units : (s : Bool) (ds : List ℕ) (n : ℕ) → IsNormal s ds n → s ≡ true → 0 < digits_value 10 ds * 10 ^ n
some_units s [] n h e = absurd (not_both (sym (h.zero refl).0 ∙ e))
some_units s (d ∷ ds) n h e =
    let a = digits_by_test (d ∷ ds) h.are_digits in
    let u : 0 * 10 ^ n < digits_value 10 (d ∷ ds) * 10 ^ n = mul-lt-mul_of_pos_right (is_positive d ds a h.last) (ten_pos n) in
    omega (arith, u)

-- a negative number is less than one without a sign
pub negative_first : (s t : Bool) (xs ys : List ℕ) (m n : ℕ) → IsNormal s xs m → s ≡ true → t ≡ false
    → int_cmp (with_sign s (digits_value 10 xs * 10 ^ m)) (with_sign t (digits_value 10 ys * 10 ^ n)) ≡ Less
negative_first s t xs ys m n h e f =
    let some = some_units s xs m h e in
    ap₂ (λ i j. int_cmp (with_sign i (digits_value 10 xs * 10 ^ m)) (with_sign j (digits_value 10 ys * 10 ^ n))) e f
    ∙ negative_plain (digits_value 10 xs * 10 ^ m) (digits_value 10 ys * 10 ^ n) ∙ is_less 0 (digits_value 10 xs * 10 ^ m + digits_value 10 ys * 10 ^ n) (omega (arith, some))

pub plain_first : (s t : Bool) (xs ys : List ℕ) (m n : ℕ) → IsNormal t ys n → s ≡ false → t ≡ true
    → int_cmp (with_sign s (digits_value 10 xs * 10 ^ m)) (with_sign t (digits_value 10 ys * 10 ^ n)) ≡ Greater
plain_first s t xs ys m n h e f =
    let some = some_units t ys n h f in
    ap₂ (λ i j. int_cmp (with_sign i (digits_value 10 xs * 10 ^ m)) (with_sign j (digits_value 10 ys * 10 ^ n))) e f
    ∙ plain_negative (digits_value 10 xs * 10 ^ m) (digits_value 10 ys * 10 ^ n) ∙ is_greater (digits_value 10 xs * 10 ^ m + digits_value 10 ys * 10 ^ n) 0 (omega (arith, some))

pub plain_both : (s t : Bool) (x y : ℕ) → s ≡ false → t ≡ false → int_cmp (with_sign s x) (with_sign t y) ≡ nat_cmp x y
plain_both s t x y e f = ap₂ (λ i j. int_cmp (with_sign i x) (with_sign j y)) e f ∙ both_plain x y

pub negative_both : (s t : Bool) (x y : ℕ) → s ≡ true → t ≡ true → int_cmp (with_sign s x) (with_sign t y) ≡ nat_cmp y x
negative_both s t x y e f = ap₂ (λ i j. int_cmp (with_sign i x) (with_sign j y)) e f ∙ both_negative x y
