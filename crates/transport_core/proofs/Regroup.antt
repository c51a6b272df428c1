-- A sum over a list, regrouped by a key of its elements.
use Rattle.std.proofs.Common.{◌≡◌, ◌==◌, ℕ, zero, suc, ◌+◌, ◌<◌, ◌≤◌, ◌⊎◌, inl, inr, ℤ, pos, ◌+ℤ◌, ◌*ℤ◌, List, [], ◌∷◌, Bool, true, false, cond, count_by, Some, refl, sym, ap, ◌∙◌, arith}
use Rattle.std.proofs.Math.IntN.{suc_ℤ-*ℤ, zero-*ℤ}
use Rattle.std.proofs.lemmas.Bool.{eq-eqb, ne_eqb, cases_eq}
use Rattle.std.proofs.lemmas.Int.{ints}
use Rattle.std.proofs.lemmas.List.Sums.{sum_by-cons}
use Rattle.std.specs.List.{range_with_len, slice_get}
use Rattle.transport_core.specs.Sum.{sum_z}
use Rattle.transport_core.proofs.Sums.{sum_z-plus, sum_z-same, sum_z-zero}

-- one more of them
one_more : (b : Bool) (n : ℕ) (z : ℤ) → pos (cond b 1 0 + n) *ℤ z ≡ cond b z (pos 0) +ℤ pos n *ℤ z
one_more true n z =
    let e : 1 + n ≡ suc n = omega arith in
    ap (λ k. pos k *ℤ z) e ∙ (suc_ℤ-*ℤ (pos n) z ∙ omega (arith, ints))
one_more false n z =
    let e : 0 + n ≡ n = omega arith in
    ap (λ k. pos k *ℤ z) e ∙ omega (arith, ints)

-- each key stands once among the keys
abbrev pub PicksOne : {D : Type 0} → (D → Bool) → List D → (D → ℤ) → ℤ → Type 0
PicksOne {D} here ds g z = sum_z (λ d. cond (here d) (g d) (pos 0)) ds ≡ z

pub regroup : {K D : Type 0} (same : K → D → Bool) (g : D → ℤ) (value : K → ℤ) (ds : List D) (ks : List K)
    → ((i : ℕ) (k : K) → slice_get ks i ≡ Some k → PicksOne (same k) ds g (value k)) → sum_z value ks ≡ sum_z (λ d. pos (count_by (λ k. same k d) ks) *ℤ g d) ds
regroup same g value ds [] picks =
    let none : sum_z (λ d. pos 0 *ℤ g d) ds ≡ pos 0 = sum_z-same (λ d. pos 0 *ℤ g d) (λ d. pos 0) ds (λ d. zero-*ℤ (g d)) ∙ sum_z-zero ds in
    sym none
regroup {K} {D} same g value ds (k ∷ ks) picks =
    let n : D → ℕ = λ d. count_by (λ x. same x d) ks in
    let each : (d : D) → pos (count_by (λ x. same x d) (k ∷ ks)) *ℤ g d ≡ cond (same k d) (g d) (pos 0) +ℤ pos (n d) *ℤ g d =
    λ d. ap (λ m. pos m *ℤ g d) (sum_by-cons (λ x. cond (same x d) 1 0) k ks) ∙ one_more (same k d) (n d) (g d) in
    let parts = sum_z-same (λ d. pos (count_by (λ x. same x d) (k ∷ ks)) *ℤ g d) (λ d. cond (same k d) (g d) (pos 0) +ℤ pos (n d) *ℤ g d) ds each in
    let split = sum_z-plus (λ d. cond (same k d) (g d) (pos 0)) (λ d. pos (n d) *ℤ g d) ds in
    omega (arith, ints, parts, split, picks 0 k refl, regroup same g value ds ks (λ i. picks (suc i)))

-- ---- which lists pick one: each key of theirs stands once in them

picks_none_by : {D : Type 0} (here : D → Bool) (g : D → ℤ) (ds : List D) (b : Bool) (z : ℤ) → (count_by here ds ≡ 0 → sum_z (λ d. cond (here d) (g d) (pos 0)) ds ≡ pos 0) → cond b 1 0 + count_by here ds ≡ 0
    → (cond b z (pos 0) +ℤ sum_z (λ d. cond (here d) (g d) (pos 0)) ds) ≡ pos 0
picks_none_by here g ds true z rest none = absurd (omega arith)
picks_none_by here g ds false z rest none = omega (arith, ints, rest (omega arith))

picks_none : {D : Type 0} (here : D → Bool) (g : D → ℤ) (ds : List D) → count_by here ds ≡ 0 → sum_z (λ d. cond (here d) (g d) (pos 0)) ds ≡ pos 0
picks_none here g [] none = refl
picks_none here g (d ∷ ds) none = picks_none_by here g ds (here d) (g d) (picks_none here g ds) (sym (sum_by-cons (λ x. cond (here x) 1 0) d ds) ∙ none)

picks_one_by : {D : Type 0} (here : D → Bool) (g : D → ℤ) (z : ℤ) (d : D) (ds : List D) (b : Bool) → b ≡ here d → ((x : D) → here x ≡ true → g x ≡ z) → (count_by here ds ≡ 1 → PicksOne here ds g z) → cond b 1 0 + count_by here ds ≡ 1
    → (cond b (g d) (pos 0) +ℤ sum_z (λ d. cond (here d) (g d) (pos 0)) ds) ≡ z
picks_one_by here g z d ds true is value rest once = omega (arith, ints, value d (sym is), picks_none here g ds (omega arith))
picks_one_by here g z d ds false is value rest once = omega (arith, ints, rest (omega arith))

-- of a list in which one key stands once, its value is picked
pub picks_one : {D : Type 0} (here : D → Bool) (g : D → ℤ) (z : ℤ) (ds : List D) → count_by here ds ≡ 1 → ((x : D) → here x ≡ true → g x ≡ z) → PicksOne here ds g z
picks_one here g z [] once value = absurd (omega arith)
picks_one here g z (d ∷ ds) once value = picks_one_by here g z d ds (here d) refl value (λ h. picks_one here g z ds h value) (sym (sum_by-cons (λ x. cond (here x) 1 0) d ds) ∙ once)

-- ---- each number of a range stands in it once

before_range : (p a n : ℕ) → p < a → count_by (λ q. p == q) (range_with_len a n) ≡ 0
before_range p a zero before = refl
before_range p a (suc n) before =
    sum_by-cons (λ q. cond (p == q) 1 0) a (range_with_len (a + 1) n) ∙ (ap (λ b. cond b 1 0 + count_by (λ q. p == q) (range_with_len (a + 1) n)) (ne_eqb p a (λ e. omega arith)) ∙ omega (arith, before_range p (a + 1) n (omega arith)))

in_range_by : (p a n : ℕ) → (p ≡ a) ⊎ (p ≡ a → ⊥) → (a + 1 ≤ p → count_by (λ q. p == q) (range_with_len (a + 1) n) ≡ 1) → a ≤ p → count_by (λ q. p == q) (range_with_len a (suc n)) ≡ 1
in_range_by p a n (inl here) rest from =
    sum_by-cons (λ q. cond (p == q) 1 0) a (range_with_len (a + 1) n) ∙ (ap (λ b. cond b 1 0 + count_by (λ q. p == q) (range_with_len (a + 1) n)) (eq-eqb p a here) ∙ omega (arith, before_range p (a + 1) n (omega arith)))
in_range_by p a n (inr past) rest from =
    sum_by-cons (λ q. cond (p == q) 1 0) a (range_with_len (a + 1) n) ∙ (ap (λ b. cond b 1 0 + count_by (λ q. p == q) (range_with_len (a + 1) n)) (ne_eqb p a past) ∙ omega (arith, rest (omega arith)))

pub once_in_range : (p a n : ℕ) → a ≤ p → p < a + n → count_by (λ q. p == q) (range_with_len a n) ≡ 1
once_in_range p a zero from to = absurd (omega arith)
once_in_range p a (suc n) from to = in_range_by p a n (cases_eq p a) (λ next. once_in_range p (a + 1) n next (omega arith)) from
