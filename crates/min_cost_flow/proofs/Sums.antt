-- Sums of a function's first numbers.
use Rattle.std.proofs.Common.{◌≡◌, ℕ, zero, suc, ◌+◌, ◌<◌, ◌≤◌, ⊎_elim, refl, sym, ap, ◌∙◌, arith}
use Rattle.std.proofs.lemmas.Bool.{cases_eq}
use Rattle.min_cost_flow.specs.Problem.{sum_to}

pub sum_same : (n : ℕ) (f g : ℕ → ℕ) → ((i : ℕ) → i < n → f i ≡ g i) → sum_to n f ≡ sum_to n g
sum_same zero f g same = refl
sum_same (suc n) f g same = omega (arith, sum_same n f g (λ i below. same i (omega (arith, below))), same n (omega arith))

pub sum_at_most : (n : ℕ) (f g : ℕ → ℕ) → ((i : ℕ) → i < n → f i ≤ g i) → sum_to n f ≤ sum_to n g
sum_at_most zero f g less = omega arith
sum_at_most (suc n) f g less = omega (arith, sum_at_most n f g (λ i below. less i (omega (arith, below))), less n (omega arith))

-- one of the numbers is at most the sum
pub sum_has : (n : ℕ) (f : ℕ → ℕ) (i : ℕ) → i < n → f i ≤ sum_to n f
sum_has zero f i below = absurd (omega (arith, below))
sum_has (suc n) f i below =
    ⊎_elim
    (λ (last : i ≡ n). omega (arith, ap f last))
    (λ (not : i ≡ n → ⊥). omega (arith, sum_has n f i (omega (arith, below, not))))
    (cases_eq i n)

-- so many are the first of these
pub sum_prefix : (n m : ℕ) (f : ℕ → ℕ) → n ≤ m → sum_to n f ≤ sum_to m f
sum_prefix n zero f few = omega (arith, ap (λ k. sum_to k f) (none n few))
  where
    none : (n : ℕ) → n ≤ 0 → n ≡ 0
    none n few = omega (arith, few)
sum_prefix n (suc m) f few =
    ⊎_elim
    (λ (same : n ≡ suc m). omega (arith, ap (λ k. sum_to k f) same))
    (λ (not : n ≡ suc m → ⊥). omega (arith, sum_prefix n m f (omega (arith, few, not))))
    (cases_eq n (suc m))

-- one number changes, and the others stay
pub sum_one : (n : ℕ) (f g : ℕ → ℕ) (j : ℕ) → j < n → ((i : ℕ) → i < n → (i ≡ j → ⊥) → g i ≡ f i) → sum_to n g + f j ≡ sum_to n f + g j
sum_one zero f g j below others = absurd (omega (arith, below))
sum_one (suc n) f g j below others =
    ⊎_elim
    (λ (last : j ≡ n). omega (arith, ap f last, ap g last, sum_same n g f (λ i less. others i (omega (arith, less)) (λ is. absurd (omega (arith, is, last, less))))))
    (λ (not : j ≡ n → ⊥). omega (arith, sum_one n f g j (omega (arith, below, not)) (λ i less. others i (omega (arith, less))), others n (omega arith) (λ is. not (sym is))))
    (cases_eq j n)

-- two numbers change, and the others stay
pub sum_two : (n : ℕ) (f g : ℕ → ℕ) (j k : ℕ) → j < n → k < n → (j ≡ k → ⊥) → ((i : ℕ) → i < n → (i ≡ j → ⊥) → (i ≡ k → ⊥) → g i ≡ f i) → sum_to n g + (f j + f k) ≡ sum_to n f + (g j + g k)
sum_two zero f g j k j_in k_in apart others = absurd (omega (arith, j_in))
sum_two (suc n) f g j k j_in k_in apart others =
    ⊎_elim
    (λ (last : j ≡ n).
    omega (arith, ap f last, ap g last, sum_one n f g k (omega (arith, k_in, last, λ (is : k ≡ n). apart (last ∙ sym is))) (λ i less not. others i (omega (arith, less)) (λ is. absurd (omega (arith, is, last, less))) not)))
    (λ (not_j : j ≡ n → ⊥).
    ⊎_elim
    (λ (last : k ≡ n).
    omega (arith, ap f last, ap g last, sum_one n f g j (omega (arith, j_in, not_j)) (λ i less not. others i (omega (arith, less)) not (λ is. absurd (omega (arith, is, last, less))))))
    (λ (not_k : k ≡ n → ⊥).
    omega (arith, sum_two n f g j k (omega (arith, j_in, not_j)) (omega (arith, k_in, not_k)) apart (λ i less. others i (omega (arith, less))), others n (omega arith) (λ is. not_j (sym is)) (λ is. not_k (sym is))))
    (cases_eq k n))
    (cases_eq j n)

pub sum_adds : (n : ℕ) (f g : ℕ → ℕ) → sum_to n (λ i. f i + g i) ≡ sum_to n f + sum_to n g
sum_adds zero f g = refl
sum_adds (suc n) f g = omega (arith, sum_adds n f g)

-- two of the numbers are together at most the sum
pub sum_has_two : (n : ℕ) (f : ℕ → ℕ) (j k : ℕ) → j < n → k < n → (j ≡ k → ⊥) → f j + f k ≤ sum_to n f
sum_has_two zero f j k j_in k_in apart = absurd (omega (arith, j_in))
sum_has_two (suc n) f j k j_in k_in apart =
    ⊎_elim
    (λ (last : j ≡ n). omega (arith, ap f last, sum_has n f k (omega (arith, k_in, last, λ (is : k ≡ n). apart (last ∙ sym is)))))
    (λ (not_j : j ≡ n → ⊥).
    ⊎_elim
    (λ (last : k ≡ n). omega (arith, ap f last, sum_has n f j (omega (arith, j_in, not_j))))
    (λ (not_k : k ≡ n → ⊥). omega (arith, sum_has_two n f j k (omega (arith, j_in, not_j)) (omega (arith, k_in, not_k)) apart))
    (cases_eq k n))
    (cases_eq j n)
