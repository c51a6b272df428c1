-- When a write is a fault.
use Rattle.std.proofs.Common.{◌≡◌, ◌+◌, ◌<◌, ◌&&◌, ◌==◌, ℕ, nat_lt, List, length, ap, arith}
use Rattle.std.proofs.lemmas.Bool.{and_from, and_right, eq-eqb, lt-ltb, ne_eqb}
use Rattle.log_file.specs.File.{count_of}

-- one that took some bytes is none
pub fault_none : (bs : List ℕ) (n a b : ℕ) → b ≡ a + count_of (nat_lt 0 (length bs) && n == 0) → 0 < n → b ≡ a
fault_none bs n a b e some =
    let zero : count_of (nat_lt 0 (length bs) && n == 0) ≡ 0 = ap count_of (and_right (nat_lt 0 (length bs)) (n == 0) (ne_eqb n 0 (λ z. omega (arith, some, z)))) in
    omega (arith, e, zero)

-- one that took no byte of some is one
pub fault_some : (bs : List ℕ) (n a b : ℕ) → b ≡ a + count_of (nat_lt 0 (length bs) && n == 0) → 0 < length bs → n ≡ 0 → a < b
fault_some bs n a b e some none =
    let one : count_of (nat_lt 0 (length bs) && n == 0) ≡ 1 = ap count_of (and_from (nat_lt 0 (length bs)) (n == 0) (lt-ltb 0 (length bs) some) (eq-eqb n 0 none)) in
    omega (arith, e, one)
