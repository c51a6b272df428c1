-- Ranges of points: their parts, and what is counted in them.
use Rattle.std.proofs.Common.{◌≡◌, ℕ, zero, suc, ◌+◌, ◌-◌, ◌<◌, ◌≤◌, List, ◌∷◌, ◌++◌, length, get_or, drop, Bool, true, false, cond, count_by, refl, sym, ap, ◌∙◌, add-one, arith}
use Rattle.std.proofs.Math.Seq.{drop-cons}
use Rattle.std.proofs.lemmas.List.Sums.{sum_by-cons, sum_by-append}
use Rattle.std.specs.List.{range_with_len}

-- the element at a place, before those after it
pub from_here : {X : Type 0} (xs : List X) (i : ℕ) (x : X) → i < length xs → x ≡ get_or xs i x → drop i xs ≡ x ∷ drop (i + 1) xs
from_here xs i x below is = rw add-one (drop-cons xs i x below ∙ ap (λ y. y ∷ drop (suc i) xs) (sym is))

range-append : (a n m : ℕ) → range_with_len a (n + m) ≡ range_with_len a n ++ range_with_len (a + n) m
range-append a zero m =
    let none : 0 + m ≡ m = omega arith in
    let same : a ≡ a + 0 = omega arith in
    ap (range_with_len a) none ∙ ap (λ b. range_with_len b m) same
range-append a (suc n) m =
    let next : suc n + m ≡ suc (n + m) = omega arith in
    let moved : (a + 1) + n ≡ a + suc n = omega arith in
    ap (range_with_len a) next ∙ ap (λ xs. a ∷ xs) (range-append (a + 1) n m ∙ ap (λ b. range_with_len (a + 1) n ++ range_with_len b m) moved)

-- a count over a range, up to a point and from it on
pub count-split : (test : ℕ → Bool) (a b c : ℕ) → a ≤ b → b ≤ c → count_by test (range_with_len a (c - a)) ≡ count_by test (range_with_len a (b - a)) + count_by test (range_with_len b (c - b))
count-split test a b c low high =
    let whole : c - a ≡ (b - a) + (c - b) = omega arith in
    let from : a + (b - a) ≡ b = omega arith in
    ap (λ n. count_by test (range_with_len a n)) whole
    ∙ (ap (count_by test) (range-append a (b - a) (c - b) ∙ ap (λ k. range_with_len a (b - a) ++ range_with_len k (c - b)) from)
    ∙ sum_by-append (λ p. cond (test p) 1 0) (range_with_len a (b - a)) (range_with_len b (c - b)))

pub count-same : (s t : ℕ → Bool) (a n : ℕ) → ((p : ℕ) → a ≤ p → p < a + n → s p ≡ t p) → count_by s (range_with_len a n) ≡ count_by t (range_with_len a n)
count-same s t a zero same = refl
count-same s t a (suc n) same =
    let rest = count-same s t (a + 1) n (λ p low high. same p (omega arith) (omega arith)) in
    let here : cond (s a) 1 0 ≡ cond (t a) 1 0 = ap (λ (b : Bool). let k : ℕ = cond b 1 0 in k) (same a (omega arith) (omega arith)) in
    omega (arith, sum_by-cons (λ p. cond (s p) 1 0) a (range_with_len (a + 1) n), sum_by-cons (λ p. cond (t p) 1 0) a (range_with_len (a + 1) n), rest, here)

count-none : (a n : ℕ) → count_by (λ (p : ℕ). false) (range_with_len a n) ≡ 0
count-none a zero = refl
count-none a (suc n) = omega (arith, sum_by-cons (λ (p : ℕ). 0) a (range_with_len (a + 1) n), count-none (a + 1) n)

pub count-all : (a n : ℕ) → count_by (λ (p : ℕ). true) (range_with_len a n) ≡ n
count-all a zero = refl
count-all a (suc n) = omega (arith, sum_by-cons (λ (p : ℕ). 1) a (range_with_len (a + 1) n), count-all (a + 1) n)

-- a test that answers alike over a range counts all of it, or nothing
pub count-alike : (b : Bool) (a n : ℕ) → count_by (λ (p : ℕ). b) (range_with_len a n) ≡ cond b n 0
count-alike true a n = count-all a n
count-alike false a n = count-none a n
