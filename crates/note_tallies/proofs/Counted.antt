-- Inputs or hashes that are counted one by one, each at its point, give the number of them on each point.
use Rattle.std.proofs.Common.{◌≡◌, ◌≢◌, ◌<◌, ◌+◌, ◌==◌, ℕ, true, false, List, [], ◌∷◌, length, map, count_by, set, get_or, replicate, eqb, if◌then◌else◌, refl, sym, ap, ◌∙◌, ⊎_elim, arith, length-set}
use Rattle.std.specs.List.{range_with_len}
use Rattle.std.proofs.lemmas.Bool.{cases_eq, eq-eqb, ne_eqb}
use Rattle.std.proofs.lemmas.List.{get_or-set_same, get_or-set_other, get_or-replicate, length-replicate}
use Rattle.std.proofs.lemmas.List.FromFn.{fill_by_all}
use Rattle.std.proofs.lemmas.List.Sums.{sum_by-cons}
use Rattle.note_tallies.specs.Lines.{counted_at}

-- each at its point
abbrev pub counts_on : List ℕ → List ℕ → List ℕ
counts_on counts [] = counts
counts_on counts (q ∷ qs) = counts_on (counted_at counts q) qs

length-counts_on : (qs counts : List ℕ) → length (counts_on counts qs) ≡ length counts
length-counts_on [] counts = refl
length-counts_on (q ∷ qs) counts = length-counts_on qs (counted_at counts q) ∙ length-set counts q (get_or counts q 0 + 1)

-- one more is seen at its point, where that is one
pub one_at : (counts : List ℕ) (q p : ℕ) → q < length counts → get_or (counted_at counts q) p 0 ≡ get_or counts p 0 + (if eqb q p then 1 else 0)
one_at counts q p room =
    let v = get_or counts q 0 + 1 in
    ⊎_elim
    (λ (same : p ≡ q).
    let here : eqb q p ≡ true = eq-eqb q p (sym same) in
    rw here (ap (λ i. get_or (set counts q v) i 0) same ∙ get_or-set_same counts q v 0 room ∙ ap (λ i. get_or counts i 0 + 1) (sym same)))
    (λ (other : p ≢ q).
    let here : eqb q p ≡ false = ne_eqb q p (λ e. other (sym e)) in
    let same = get_or-set_other counts q p v 0 other in
    rw here (omega (arith, same)))
    (cases_eq p q)

-- the same at a point that is one, wherever the one more is
one_within : (counts : List ℕ) (q p : ℕ) → p < length counts → get_or (counted_at counts q) p 0 ≡ get_or counts p 0 + (if eqb q p then 1 else 0)
one_within counts q p inside =
    let v = get_or counts q 0 + 1 in
    ⊎_elim
    (λ (same : p ≡ q). one_at counts q p (omega (arith, inside, same)))
    (λ (other : p ≢ q).
    let here : eqb q p ≡ false = ne_eqb q p (λ e. other (sym e)) in
    let same = get_or-set_other counts q p v 0 other in
    rw here (omega (arith, same)))
    (cases_eq p q)

module _ {X : Type 0} (at : X → ℕ) where
  at_each : (xs : List X) (counts : List ℕ) (p : ℕ) → p < length counts → get_or (counts_on counts (map at xs)) p 0 ≡ get_or counts p 0 + count_by (λ x. at x == p) xs
  at_each [] counts p inside = omega arith
  at_each (x ∷ xs) counts p inside =
      let size : length (counted_at counts (at x)) ≡ length counts = length-set counts (at x) (get_or counts (at x) 0 + 1) in
      let later = at_each xs (counted_at counts (at x)) p (omega (arith, inside, size)) in
      let here = one_within counts (at x) p inside in
      let split = sum_by-cons (λ (y : X). if eqb (at y) p then 1 else 0) x xs in
      omega (arith, later, here, split)

  pub counts_from_nothing : (xs : List X) (total : ℕ) → counts_on (replicate total 0) (map at xs) ≡ map (λ p. count_by (λ x. at x == p) xs) (range_with_len 0 total)
  counts_from_nothing xs total =
      let whole : length (replicate total 0) ≡ total = length-replicate {A = ℕ} total 0 in
      fill_by_all (λ p. count_by (λ x. at x == p) xs) (counts_on (replicate total 0) (map at xs)) total 0 (length-counts_on (map at xs) (replicate total 0) ∙ whole) (λ p below.
      let each = at_each xs (replicate total 0) p (omega (arith, whole, below)) in
      let none = get_or-replicate {A = ℕ} total p 0 0 below in
      omega (arith, each, none))
