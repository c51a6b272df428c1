-- The point of a hash input is one of the points of its rule.
use Rattle.std.proofs.Common.{ℕ, ◌*◌, ◌/◌, ◌%◌, ◌^◌, ◌<◌, bit_xor, List, arith, lit<}
use Rattle.std.proofs.Math.Nat.{mul-lt-mul_of_pos_right, div-le_self, div-lt_iff_lt-mul}
use Rattle.std.proofs.lemmas.Nat.{xor_of_32}
use Rattle.murmur_core.specs.Murmur.{hash, folded, finished}
use Rattle.bucket_core.specs.Point.{scale, point_of}

folded_below : (by h : ℕ) → h < 2 ^ 32 → folded by h < 2 ^ 32
folded_below by h below = xor_of_32 h (h / 2 ^ by) below (omega (arith, div-le_self h (2 ^ by)))

finished_below : (len h : ℕ) → finished len h < 2 ^ 32
unfolding finished
finished_below len h =
    let third = folded 13 (folded 16 (bit_xor h (len % 2 ^ 32)) * 0x85ebca6b % 2 ^ 32) * 0xc2b2ae35 in
    folded_below 16 (third % 2 ^ 32) (omega arith)

-- a hash has 32 bits
pub hash-below : (bytes : List ℕ) (seed : ℕ) → hash bytes seed < 2 ^ 32
hash-below bytes seed = finished_below _ _

pub scale-below : (total h : ℕ) → 0 < total → h < 2 ^ 32 → scale total h < total
scale-below total h some below =
    let grows : h * total < 2 ^ 32 * total = mul-lt-mul_of_pos_right below some in
    let flip : h * total < total * 2 ^ 32 = omega (arith, grows) in
    (div-lt_iff_lt-mul {k = 2 ^ 32} {x = h * total} {y = total} (lit< tt)).1 flip

pub point_of-below : (total : ℕ) (key : List ℕ) → 0 < total → point_of total key < total
unfolding point_of
point_of-below total key some = scale-below total (hash key 0) some (hash-below key 0)
