-- The order of numbers by their places and digits.
use Rattle.std.proofs.Common.{◌≡◌, ◌≤◌, ◌<◌, ℕ, zero, suc, ◌+◌, ◌*◌, ◌-◌, ◌^◌, Bool, true, false, List, [], ◌∷◌, length, refl, ap, ap₂, sym, ◌∙◌, arith, inl, inr, mul-le-mul_right, nat_cmp, Ordering, Less, Equal, Greater}
use Rattle.std.proofs.lemmas.Bool.{cases_order}
use Rattle.std.proofs.Math.Nat.{add-mul, mul-lt-mul_of_pos_right, pow-le-pow_right}
use Rattle.std.specs.Char.{digit_value}
use Rattle.std.specs.Cmp.{nat_cmp_is}
use Rattle.std.specs.Cmp.Lexicographic.{slice_cmp}
use Rattle.std.specs.Ordering.{ordering_then}
use Rattle.std.specs.Str.Parse.{AllDigits, digits_value}
use Rattle.logic_values.specs.Decimal.{IsNormal, without_leading_zeros, without_trailing_zeros}
use Rattle.logic_values.proofs.Values.{above_first_place, below_places, code_of, counts, digits_by_test, first_place, is_positive, ten_pos}
use Rattle.logic_values.proofs.Zeros.{first_counts, rest_kept}

pub is_less : (x y : ℕ) → x < y → nat_cmp x y ≡ Less
is_less x y h = sym (nat_cmp_is x y Less h)

pub is_equal : (x y : ℕ) → x ≡ y → nat_cmp x y ≡ Equal
is_equal x y h = sym (nat_cmp_is x y Equal h)

pub is_greater : (x y : ℕ) → y < x → nat_cmp x y ≡ Greater
is_greater x y h = sym (nat_cmp_is x y Greater h)

-- what comes before both makes no difference
same_added : (k x y : ℕ) → nat_cmp (k + x) (k + y) ≡ nat_cmp x y
same_added k x y = elim (cases_order x y) [
  | inl e ↦ is_equal (k + x) (k + y) (omega (arith, e)) ∙ sym (is_equal x y e)
  | inr o ↦ elim o [
    | inl l ↦ is_less (k + x) (k + y) (omega (arith, l)) ∙ sym (is_less x y l)
    | inr g ↦ is_greater (k + x) (k + y) (omega (arith, g)) ∙ sym (is_greater x y g)
  ]
]

next_at_most : (a b : ℕ) → a < b → a + 1 ≤ b
next_at_most a b h = omega (arith, h)

-- a lesser first digit at the same place
first_less : (a b k x y : ℕ) → a < b → x < k → a * k + x < b * k + y
first_less a b k x y h l = let up = mul-le-mul_right k (next_at_most a b h) in let s = add-mul a 1 k in omega (arith, up, s, l)

-- something by a power of ten is something
some_units : (d : ℕ) (ds : List ℕ) (k : ℕ) → AllDigits 10 (d ∷ ds) → without_trailing_zeros (d ∷ ds) ≡ d ∷ ds → 0 < digits_value 10 (d ∷ ds) * 10 ^ k
some_units d ds k a l =
    let u : 0 * 10 ^ k < digits_value 10 (d ∷ ds) * 10 ^ k = mul-lt-mul_of_pos_right (is_positive d ds a l) (ten_pos k) in
    omega (arith, u)

first_decides : (a b : ℕ) (xs ys : List ℕ) (m n : ℕ) → AllDigits 10 (a ∷ xs) → AllDigits 10 (b ∷ ys) → length xs + m ≡ length ys + n
    → a < b → digits_value 10 (a ∷ xs) * 10 ^ m < digits_value 10 (b ∷ ys) * 10 ^ n
first_decides a b xs ys m n da db e l =
    let p = first_place a xs m in
    let q = first_place b ys n in
    let k : 10 ^ (length xs + m) ≡ 10 ^ (length ys + n) = ap (λ i. 10 ^ i) e in
    let less : digit_value a < digit_value b = omega (arith, l, code_of a da.0, code_of b db.0) in
    let below : digits_value 10 xs * 10 ^ m < 10 ^ (length ys + n) = omega (arith, k, below_places xs m da.1) in
    let c = first_less (digit_value a) (digit_value b) (10 ^ (length ys + n)) (digits_value 10 xs * 10 ^ m) (digits_value 10 ys * 10 ^ n) less below in
    let r = ap (λ x. digit_value a * x) k in
    omega (arith, p, q, c, r)

first_same : (a b : ℕ) (xs ys : List ℕ) (m n : ℕ) → length xs + m ≡ length ys + n → a ≡ b
    → nat_cmp (digits_value 10 (a ∷ xs) * 10 ^ m) (digits_value 10 (b ∷ ys) * 10 ^ n) ≡ nat_cmp (digits_value 10 xs * 10 ^ m) (digits_value 10 ys * 10 ^ n)
first_same a b xs ys m n e s =
    let p = first_place a xs m ∙ ap₂ (λ i j. i * 10 ^ j + digits_value 10 xs * 10 ^ m) (ap digit_value s) e in
    let q = first_place b ys n in
    ap₂ nat_cmp p q ∙ same_added (digit_value b * 10 ^ (length ys + n)) (digits_value 10 xs * 10 ^ m) (digits_value 10 ys * 10 ^ n)

-- Of numbers with as many places the digits decide, from the first on.
pub by_digits : (xs ys : List ℕ) (m n : ℕ) → AllDigits 10 xs → AllDigits 10 ys → without_trailing_zeros xs ≡ xs → without_trailing_zeros ys ≡ ys
    → length xs + m ≡ length ys + n → nat_cmp (digits_value 10 xs * 10 ^ m) (digits_value 10 ys * 10 ^ n) ≡ slice_cmp nat_cmp xs ys
by_digits [] [] m n dx dy lx ly e = is_equal (0 * 10 ^ m) (0 * 10 ^ n) (omega arith)
by_digits [] (b ∷ ys) m n dx dy lx ly e = is_less (0 * 10 ^ m) (digits_value 10 (b ∷ ys) * 10 ^ n) (omega (arith, some_units b ys n dy ly))
by_digits (a ∷ xs) [] m n dx dy lx ly e = is_greater (digits_value 10 (a ∷ xs) * 10 ^ m) (0 * 10 ^ n) (omega (arith, some_units a xs m dx lx))
by_digits (a ∷ xs) (b ∷ ys) m n dx dy lx ly e =
    let f : length xs + m ≡ length ys + n = omega (arith, e) in
    elim (cases_order a b) [
      | inl s ↦ first_same a b xs ys m n f s ∙ by_digits xs ys m n dx.1 dy.1 (rest_kept a xs lx) (rest_kept b ys ly) f ∙ ap (λ (o : Ordering). ordering_then o (slice_cmp nat_cmp xs ys)) (sym (is_equal a b s))
      | inr o ↦ elim o [
        | inl l ↦ is_less (digits_value 10 (a ∷ xs) * 10 ^ m) (digits_value 10 (b ∷ ys) * 10 ^ n) (first_decides a b xs ys m n dx dy f l) ∙ ap (λ (o : Ordering). ordering_then o (slice_cmp nat_cmp xs ys)) (sym (is_less a b l))
        | inr g ↦ is_greater (digits_value 10 (a ∷ xs) * 10 ^ m) (digits_value 10 (b ∷ ys) * 10 ^ n) (first_decides b a ys xs n m dy dx (sym f) g) ∙ ap (λ (o : Ordering). ordering_then o (slice_cmp nat_cmp xs ys)) (sym (is_greater a b g))
      ]
    ]

ten_there : 0 < 10
ten_there = omega arith

-- Of numbers with more places and fewer, the first is greater.
pub by_places : (xs ys : List ℕ) (m n : ℕ) → AllDigits 10 xs → AllDigits 10 ys → without_leading_zeros ys ≡ ys → (ys ≡ [] → n ≡ 0)
    → length xs + m < length ys + n → digits_value 10 xs * 10 ^ m < digits_value 10 ys * 10 ^ n
by_places xs [] m n dx dy first none l = let z = none refl in absurd (omega (arith, l, z))
by_places xs (y ∷ ys) m n dx dy first none l =
    let below = below_places xs m dx in
    let up = pow-le-pow_right {n = 10} ten_there {i = length xs + m} {j = length ys + n} (omega (arith, l)) in
    let above = above_first_place y ys n (counts y dy.0 (first_counts y ys first)) in
    omega (arith, below, up, above)

-- ---- both together

pub by_order : (s t : Bool) (xs ys : List ℕ) (m n : ℕ) → IsNormal s xs m → IsNormal t ys n
    → ordering_then (nat_cmp (length xs + m) (length ys + n)) (slice_cmp nat_cmp xs ys) ≡ nat_cmp (digits_value 10 xs * 10 ^ m) (digits_value 10 ys * 10 ^ n)
by_order s t xs ys m n a b =
    let dx = digits_by_test xs a.are_digits in
    let dy = digits_by_test ys b.are_digits in
    elim (cases_order (length xs + m) (length ys + n)) [
      | inl e ↦ ap (λ (o : Ordering). ordering_then o (slice_cmp nat_cmp xs ys)) (is_equal (length xs + m) (length ys + n) e) ∙ sym (by_digits xs ys m n dx dy a.last b.last e)
      | inr o ↦ elim o [
        | inl l ↦ ap (λ (o : Ordering). ordering_then o (slice_cmp nat_cmp xs ys)) (is_less (length xs + m) (length ys + n) l)
            ∙ sym (is_less (digits_value 10 xs * 10 ^ m) (digits_value 10 ys * 10 ^ n) (by_places xs ys m n dx dy b.first (λ e. (b.zero e).1) l))
        | inr g ↦ ap (λ (o : Ordering). ordering_then o (slice_cmp nat_cmp xs ys)) (is_greater (length xs + m) (length ys + n) g)
            ∙ sym (is_greater (digits_value 10 xs * 10 ^ m) (digits_value 10 ys * 10 ^ n) (by_places ys xs n m dy dx a.first (λ e. (a.zero e).1) g))
      ]
    ]
