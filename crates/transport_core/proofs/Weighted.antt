-- Weighted sums, row by row, and their bounds.
use Rattle.std.proofs.Common.{◌≡◌, ℕ, zero, suc, ◌+◌, ◌*◌, ◌^◌, ◌<◌, ◌≤◌, ℤ, pos, negsuc, neg_ℤ, ◌+ℤ◌, ◌*ℤ◌, ◌≤ℤ◌, List, [], ◌∷◌, length, get_or, drop, sum_by, String, Global, ap, ◌∙◌, lit<, arith}
use Rattle.std.proofs.Math.Nat.{mul-le-mul_left}
use Rattle.std.proofs.lemmas.Int.{ints, clamps, fits_signed_mul}
use lib.Signed.{nat_abs-le}
use Rattle.std.proofs.lemmas.List.Sums.{sum_by-cons}
use Rattle.std.specs.Int.{w64, w128, int_max, int_min}
use Rattle.std.specs.Borrow.{Bor}
use Rattle.price_core.specs.Limits.{Limits, limit_view, limits_view}
use Rattle.price_core.specs.declared.totals.Limit.{Limit}
use Rattle.transport_core.specs.Certificate.{alpha_view, beta_view, group_sum, gains, losses}
use Rattle.transport_core.specs.Groups.{row_view, rows_view}
use Rattle.transport_core.specs.Rows.{whole_amount}
use Rattle.transport_core.proofs.Ranges.{from_here}
use mir.Val.{SFits}

pub times-low : (n : ℕ) (z : ℤ) → SFits w64 z → neg_ℤ (pos (n * 2 ^ 63)) ≤ℤ (pos n *ℤ z)
times-low n (pos b) fits = omega (arith, ints)
times-low n (negsuc b) fits = let grows : n * suc b ≤ n * 2 ^ 63 = mul-le-mul_left n fits.sfits in omega (arith, ints, grows)

pub times-high : (n : ℕ) (z : ℤ) → SFits w64 z → (pos n *ℤ z) ≤ℤ pos (n * 2 ^ 63)
times-high n (pos b) fits = let small : b ≤ 2 ^ 63 = omega (arith, fits.sfits) in let grows : n * b ≤ n * 2 ^ 63 = mul-le-mul_left n small in omega (arith, ints, grows)
times-high n (negsuc b) fits = omega (arith, ints)

pub times-positive : (n : ℕ) (z : ℤ) → pos 0 ≤ℤ z → pos 0 ≤ℤ (pos n *ℤ z)
times-positive n (pos b) up = omega (arith, ints)
times-positive n (negsuc b) up = absurd (omega (arith, ints, up))

pub times-negative : (n : ℕ) (z : ℤ) → z ≤ℤ pos 0 → (pos n *ℤ z) ≤ℤ pos 0
times-negative n (pos zero) down = omega (arith, ints)
times-negative n (pos (suc b)) down = absurd (omega (arith, ints, down))
times-negative n (negsuc b) down = omega (arith, ints)

-- what names below 0 make is never above 0
pub losses-le : (limits : Limits) (beta : List (List ℕ × ℤ)) → losses limits beta ≤ℤ pos 0
losses-le [] beta = omega (arith, ints)
losses-le (l ∷ ls) [] = omega (arith, ints)
losses-le (l ∷ ls) (b ∷ bs) =
    let down : int_min b.1 (pos 0) ≤ℤ pos 0 = omega (arith, ints, clamps) in
    omega (arith, ints, times-negative l.1.1 (int_min b.1 (pos 0)) down, losses-le ls bs)

abbrev pub Row : Type 0
Row = (Bor (List ℕ) × ℕ) × ℕ

abbrev pub Alpha : Type 0
Alpha = String Global × ℕ × ℤ

abbrev pub Beta : Type 0
Beta = String Global × ℤ

-- ---- one row more

pub points-more : (groups : List Row) (alpha : List Alpha) (i : ℕ) (g : Row) (a : Alpha) → i < length groups → i < length alpha → g ≡ get_or groups i g → a ≡ get_or alpha i a
    → group_sum (rows_view (drop i groups)) (alpha_view (drop i alpha)) ≡ (pos g.1 *ℤ a.2) +ℤ group_sum (rows_view (drop (i + 1) groups)) (alpha_view (drop (i + 1) alpha))
points-more groups alpha i g a gs vs g_is a_is =
    ap (λ xs. group_sum (rows_view xs) (alpha_view (drop i alpha))) (from_here groups i g gs g_is) ∙ ap (λ ys. group_sum (row_view g ∷ rows_view (drop (i + 1) groups)) (alpha_view ys)) (from_here alpha i a vs a_is)

pub whole-more : (groups : List Row) (i : ℕ) (g : Row) → i < length groups → g ≡ get_or groups i g → whole_amount (drop i groups) ≡ g.1 + whole_amount (drop (i + 1) groups)
whole-more groups i g below is = ap whole_amount (from_here groups i g below is) ∙ sum_by-cons (λ (r : Row). r.1) g (drop (i + 1) groups)

pub gains-more : (limits : List Limit) (beta : List Beta) (i : ℕ) (l : Limit) (b : Beta) → i < length limits → i < length beta → l ≡ get_or limits i l → b ≡ get_or beta i b
    → gains (limits_view (drop i limits)) (beta_view (drop i beta)) ≡ (pos l.low *ℤ int_max b.1 (pos 0)) +ℤ gains (limits_view (drop (i + 1) limits)) (beta_view (drop (i + 1) beta))
gains-more limits beta i l b ls bs l_is b_is =
    ap (λ xs. gains (limits_view xs) (beta_view (drop i beta))) (from_here limits i l ls l_is) ∙ ap (λ ys. gains (limit_view l ∷ limits_view (drop (i + 1) limits)) (beta_view ys)) (from_here beta i b bs b_is)

pub losses-more : (limits : List Limit) (beta : List Beta) (i : ℕ) (l : Limit) (b : Beta) → i < length limits → i < length beta → l ≡ get_or limits i l → b ≡ get_or beta i b
    → losses (limits_view (drop i limits)) (beta_view (drop i beta)) ≡ (pos l.high *ℤ int_min b.1 (pos 0)) +ℤ losses (limits_view (drop (i + 1) limits)) (beta_view (drop (i + 1) beta))
losses-more limits beta i l b ls bs l_is b_is =
    ap (λ xs. losses (limits_view xs) (beta_view (drop i beta))) (from_here limits i l ls l_is) ∙ ap (λ ys. losses (limit_view l ∷ limits_view (drop (i + 1) limits)) (beta_view ys)) (from_here beta i b bs b_is)

pub lows-more : (limits : List Limit) (i : ℕ) (l : Limit) → i < length limits → l ≡ get_or limits i l → sum_by (λ x. x.low) (drop i limits) ≡ l.low + sum_by (λ x. x.low) (drop (i + 1) limits)
lows-more limits i l below is = ap (sum_by (λ (x : Limit). x.low)) (from_here limits i l below is) ∙ sum_by-cons (λ (x : Limit). x.low) l (drop (i + 1) limits)

pub product-fits : (n : ℕ) (z : ℤ) → n < 2 ^ 32 → SFits w64 z → SFits w128 (pos n *ℤ z)
product-fits n z small fits = fits_signed_mul w128 (pos n) z (2 ^ 32) (2 ^ 63) (omega arith) (nat_abs-le z fits.sfits) (lit< tt)
