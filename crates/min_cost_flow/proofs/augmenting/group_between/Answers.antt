-- The arc stands in the list.
use Rattle.std.proofs.Common.{ℕ, ◌≡◌, ◌+◌, ◌*◌, ◌<◌, arith}
use Rattle.std.proofs.Math.Nat.{mul-le-mul_left}

cell : (from to n size : ℕ) → from < n → to < n → size ≡ n * n → from * n + to < size
cell from to n size from_in to_in is = omega (arith, is, to_in, mul-le-mul_left {m = from + 1} {n = n} n (omega arith))
