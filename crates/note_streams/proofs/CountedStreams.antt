-- A sum that saturates is 0 just where both numbers are.
use Rattle.std.proofs.Common.{◌≡◌, ◌<◌, ◌∙◌, ◌||◌, ◌+◌, ◌-◌, ◌^◌, ℕ, zero, suc, Bool, nat_lt, min, ap, sym, arith}
use Rattle.std.proofs.lemmas.Bool.{lt-ltb}

pub counted : (one other sum : ℕ) → sum ≡ min (one + other) (2 ^ 64 - 1) → nat_lt 0 sum ≡ (nat_lt 0 one || nat_lt 0 other)
counted zero zero sum is =
    let none : sum ≡ 0 = omega (arith, is) in
    ap (nat_lt 0) none
counted zero (suc k) sum is =
    let some : 0 < sum = omega (arith, is) in
    let other : 0 < suc k = omega arith in
    lt-ltb 0 sum some ∙ sym (lt-ltb 0 (suc k) other)
counted (suc n) other sum is =
    let some : 0 < sum = omega (arith, is) in
    let one : 0 < suc n = omega arith in
    lt-ltb 0 sum some ∙ ap (λ (b : Bool). b || nat_lt 0 other) (sym (lt-ltb 0 (suc n) one))
