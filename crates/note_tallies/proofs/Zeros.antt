-- The tally of no input.
use Rattle.std.proofs.Common.{◌≡◌, ◌<◌, ◌≤◌, ℕ, zero, suc, None, get_or, replicate, sum, refl, ⊎_elim, arith}
use Rattle.std.proofs.lemmas.Bool.{cases_lt}
use Rattle.std.proofs.lemmas.List.{get_or-replicate, get_or_past, length-replicate}
use Rattle.std.proofs.lemmas.List.Sums.{sum_by-cons}
use Rattle.book_core.specs.Page.{PageName}
use Rattle.note_tallies.specs.Tally.{IsTallyTotal, IsPageTally}

pub zero_all : (n q : ℕ) → get_or {A = ℕ} (replicate n 0) q 0 ≡ 0
zero_all n q =
    ⊎_elim
    (λ (below : q < n). get_or-replicate {A = ℕ} n q 0 0 below)
    (λ (past : n ≤ q). get_or_past {X = ℕ} (replicate n 0) q 0 (let size = length-replicate {A = ℕ} n 0 in omega (arith, past, size)))
    (cases_lt q n)

pub sum_zeros : (n : ℕ) → sum (replicate n 0) ≡ 0
sum_zeros zero = refl
sum_zeros (suc n) =
    let all = sum_by-cons (λ (x : ℕ). x) 0 (replicate n 0) in
    let later = sum_zeros n in
    omega (arith, all, later)

pub none_is : (page : PageName) (total : ℕ) → IsTallyTotal total → IsPageTally (record { page = page; total = total; first = None; last = None; inputs = 0; counts = replicate total 0 })
none_is page total allowed =
    record {
      allowed = allowed;
      whole = length-replicate {A = ℕ} total 0;
      small = λ p. (let none = zero_all total p in omega (arith, none));
      added = sum_zeros total;
      few = omega arith;
      ends = refl;
    }
