-- Numbers by groups and names, and what is taken from them.
use Rattle.std.proofs.Common.{◌≡◌, ◌==◌, ℕ, zero, suc, ◌+◌, ◌-◌, ◌*◌, ◌<◌, ◌≤◌, ⊎_elim, List, [], ◌∷◌, length, take, drop, get_or, set, sum, cond, refl, sym, ap, ◌∙◌, arith, length-drop}
use Rattle.std.proofs.Math.Nat.{mul-le-mul_left}
use Rattle.std.proofs.Math.Seq.{take-set-lt}
use Rattle.std.proofs.lemmas.Bool.{cases_eq, cases_order, cond-true, cond-false, eq-eqb, false_from_ne_true, eqb-true}
use Rattle.std.proofs.lemmas.List.{drop-set-lt, drop-set-add, take-set-le, get_or-take, get_or-drop, get_or-set_same, length-set, length-take, set-get_or}
use Rattle.std.proofs.lemmas.List.Sums.{sum_by-cons}
use Rattle.transport_plan.specs.Dealing.{row, IsTally}

-- ---- what a group has left

-- where the numbers sum to more than 0, one of them is
pub some_left : (row : List ℕ) → 0 < sum row → (w : ℕ) × (w < length row) × (0 < get_or row w 0)
some_left [] some = absurd (omega arith)
some_left (zero ∷ row) some =
    let later = some_left row (omega arith) in
    (suc (later.0), omega (arith, later.1), later.2)
some_left (suc n ∷ row) some = (0, omega arith, omega arith)

sum-cons : (x : ℕ) (xs : List ℕ) → sum (x ∷ xs) ≡ x + sum xs
sum-cons x xs = sum_by-cons (λ n. n) x xs

-- ---- so many are taken

pub less : (xs : List ℕ) (i n : ℕ) → n ≤ get_or xs i 0 → sum xs ≡ sum (set xs i (get_or xs i 0 - n)) + n
less [] i n few = omega (arith, few)
less (x ∷ xs) zero n few = omega (arith, sum-cons x xs, sum-cons (x - n) xs, few)
less (x ∷ xs) (suc i) n few = omega (arith, sum-cons x xs, sum-cons x (set xs i (get_or xs i 0 - n)), less xs i n few)

pub at_row : (width : ℕ) (xs : List ℕ) (g w : ℕ) → w < width → get_or (row width xs g) w 0 ≡ get_or xs (g * width + w) 0
at_row width xs g w within = get_or-take width (drop (g * width) xs) w 0 within ∙ get_or-drop (g * width) xs w 0

pub own_row : (width : ℕ) (xs : List ℕ) (g w y : ℕ) → w < width → row width (set xs (g * width + w) y) g ≡ set (row width xs g) w y
own_row width xs g w y within = ap (take width) (drop-set-add (g * width) xs w y) ∙ take-set-lt width (drop (g * width) xs) w y within

pub earlier_row : (g h width : ℕ) → h < g → width * h + width ≤ width * g
earlier_row g h width before = omega (arith, mul-le-mul_left {m = h + 1} {n = g} width (omega arith))

other_row : (width : ℕ) (xs : List ℕ) (g h w y : ℕ) → w < width → (g ≡ h → ⊥) → row width (set xs (h * width + w) y) g ≡ row width xs g
other_row width xs g h w y within not =
    ⊎_elim
    (λ (same : g ≡ h). absurd (not same))
    (⊎_elim
    (λ (later : g < h).
    let place : h * width + w ≡ g * width + ((h * width - g * width) + w) = omega (arith, earlier_row h g width later) in
    ap (λ i. row width (set xs i y) g) place ∙ (ap (take width) (drop-set-add (g * width) xs ((h * width - g * width) + w) y) ∙ take-set-le width (drop (g * width) xs) ((h * width - g * width) + w) y (omega (arith, earlier_row h g width later))))
    (λ (before : h < g). ap (take width) (drop-set-lt (g * width) xs (h * width + w) y (omega (arith, earlier_row g h width before, within)))))
    (cases_order g h)

-- the group has so many less
pub row_less : (width : ℕ) (xs : List ℕ) (g w n : ℕ) → w < width → n ≤ get_or xs (g * width + w) 0 → sum (row width xs g) ≡ sum (row width (set xs (g * width + w) (get_or xs (g * width + w) 0 - n)) g) + n
row_less width xs g w n within few =
    let y : ℕ = get_or xs (g * width + w) 0 - n in
    let read : get_or (row width xs g) w 0 ≡ get_or xs (g * width + w) 0 = at_row width xs g w within in
    let fewer = less (row width xs g) w n (omega (arith, read, few)) in
    let written : sum (set (row width xs g) w (get_or (row width xs g) w 0 - n)) ≡ sum (set (row width xs g) w y) = ap (λ m. sum (set (row width xs g) w (m - n))) read in
    omega (arith, fewer, written, ap sum (own_row width xs g w y within))

-- ---- tallies of what is taken

set-set : (xs : List ℕ) (i x y : ℕ) → set (set xs i x) i y ≡ set xs i y
set-set [] i x y = refl
set-set (z ∷ xs) zero x y = refl
set-set (z ∷ xs) (suc i) x y = ap (λ zs. z ∷ zs) (set-set xs i x y)

-- a group's numbers are one for each name
pub row_wide : (groups width g : ℕ) (xs : List ℕ) → length xs ≡ groups * width → g < groups → length (take (g * width + width - g * width) (drop (g * width) xs)) ≡ width
row_wide groups width g xs shape group = omega (arith, length-take (g * width + width - g * width) (drop (g * width) xs), length-drop (g * width) xs, earlier_row groups g width group, shape)

pub place_within : (groups width g w : ℕ) → g < groups → w < width → g * width + w < groups * width
place_within groups width g w group name = omega (arith, earlier_row groups g width group, name)

-- a tally says of each that is taken what counts there
pub tally_less : (groups width : ℕ) (tally : List ℕ → ℕ) (counts : ℕ → ℕ → ℕ) (xs : List ℕ) (g w n : ℕ) → IsTally groups width tally counts → length xs ≡ groups * width → g < groups → w < width → n ≤ get_or xs (g * width + w) 0
    → tally xs ≡ tally (set xs (g * width + w) (get_or xs (g * width + w) 0 - n)) + n * counts g w
tally_less groups width tally counts xs g w zero is shape group name few =
    let i : ℕ = g * width + w in
    let x : ℕ = get_or xs i 0 in
    let none : x - 0 ≡ x = omega arith in
    let same : set xs i (x - 0) ≡ xs = ap (set xs i) none ∙ set-get_or xs i 0 in
    omega (arith, ap tally same)
tally_less groups width tally counts xs g w (suc n) is shape group name few =
    let i : ℕ = g * width + w in
    let x : ℕ = get_or xs i 0 in
    let ys = set xs i (x - 1) in
    let inside : i < length xs = omega (arith, shape, place_within groups width g w group name) in
    let read : get_or ys i 0 ≡ x - 1 = get_or-set_same xs i (x - 1) 0 inside in
    let one = is.dealt xs g w shape group name (omega (arith, few)) in
    let rest = tally_less groups width tally counts ys g w n is (length-set xs i (x - 1) ∙ shape) group name (omega (arith, read, few)) in
    let same : set ys i (get_or ys i 0 - n) ≡ set xs i (x - suc n) = ap (λ m. set ys i (m - n)) read ∙ (set-set xs i (x - 1) (x - 1 - n) ∙ ap (set xs i) (omega arith)) in
    omega (arith, one, rest, ap tally same)

-- ---- two tallies: of all numbers, and of a group's

pub of_all : (groups width : ℕ) → IsTally groups width sum (λ g w. 1)
of_all groups width = record { none = λ numbers none. none; dealt = λ numbers g w shape group name some. less numbers (g * width + w) 1 (omega (arith, some)) }

sum_of_part : (xs : List ℕ) (n m : ℕ) → sum (take n (drop m xs)) ≤ sum xs
sum_of_part [] zero zero = omega arith
sum_of_part [] zero (suc m) = omega arith
sum_of_part [] (suc n) zero = omega arith
sum_of_part [] (suc n) (suc m) = omega arith
sum_of_part (x ∷ xs) zero zero = omega arith
sum_of_part (x ∷ xs) (suc n) zero = omega (arith, sum-cons x xs, sum-cons x (take n xs), sum_of_part xs n zero)
sum_of_part (x ∷ xs) n (suc m) = omega (arith, sum-cons x xs, sum_of_part xs n m)

pub of_group : (groups width g : ℕ) → IsTally groups width (λ numbers. sum (row width numbers g)) (λ h w. cond (h == g) 1 0)
of_group groups width g = record {
  none = λ numbers none. omega (arith, none, sum_of_part numbers width (g * width));
  dealt = λ numbers h w shape group name some.
      ⊎_elim
      (λ (same : g ≡ h).
      let here = row_less width numbers h w 1 name (omega (arith, some)) in
      let y : ℕ = get_or numbers (h * width + w) 0 - 1 in
      let old : sum (row width numbers g) ≡ sum (row width numbers h) = ap (λ k. sum (row width numbers k)) same in
      let new : sum (row width (set numbers (h * width + w) y) g) ≡ sum (row width (set numbers (h * width + w) y) h) = ap (λ k. sum (row width (set numbers (h * width + w) y) k)) same in
      omega (arith, here, old, new, cond-true {A = ℕ} (h == g) 1 0 (eq-eqb h g (sym same))))
      (λ (not : g ≡ h → ⊥).
      let y : ℕ = get_or numbers (h * width + w) 0 - 1 in
      omega (arith, ap sum (other_row width numbers g h w y name not), cond-false {A = ℕ} (h == g) 1 0 (false_from_ne_true (h == g) (λ e. not (sym (eqb-true h g e))))))
      (cases_eq g h);
}
