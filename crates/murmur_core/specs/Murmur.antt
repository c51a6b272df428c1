-- MurmurHash3 x86 32-bit of a list of bytes: `MurmurHash3_x86_32` of Austin Appleby's `MurmurHash3.cpp` (SMHasher).
use Rattle.std.specs.Prelude.{ℕ, ◌+◌, ◌*◌, ◌/◌, ◌%◌, ◌^◌, List, [], ◌∷◌, length, fold, bit_xor}
use Rattle.std.specs.Int.{w32, rotate_left}

-- bytes as a number, the first byte lowest
abbrev pub little_endian : List ℕ → ℕ
little_endian [] = 0
little_endian (b ∷ bs) = b + 256 * little_endian bs

-- the whole blocks of four bytes
abbrev pub blocks : List ℕ → List (List ℕ)
blocks (a ∷ b ∷ c ∷ d ∷ rest) = (a ∷ b ∷ c ∷ d ∷ []) ∷ blocks rest
blocks short = []

-- the bytes behind the last whole block
abbrev pub tail : List ℕ → List ℕ
tail (a ∷ b ∷ c ∷ d ∷ rest) = tail rest
tail short = short

-- a block, multiplied, rotated and multiplied again
unfoldable pub scrambled : ℕ → ℕ
scrambled k = (rotate_left w32 ((k * 0xcc9e2d51) % 2 ^ 32) 15 * 0x1b873593) % 2 ^ 32

-- the hash so far with a whole block mixed in
unfoldable pub with_block : ℕ → List ℕ → ℕ
with_block h block = (rotate_left w32 (bit_xor h (scrambled (little_endian block))) 13 * 5 + 0xe6546b64) % 2 ^ 32

-- the hash so far with the last one to three bytes mixed in, if there are any
unfoldable pub with_tail : ℕ → List ℕ → ℕ
with_tail h [] = h
with_tail h (b ∷ bs) = bit_xor h (scrambled (little_endian (b ∷ bs)))

-- h ^ (h >> by)
abbrev pub folded : ℕ → ℕ → ℕ
folded by h = bit_xor h (h / 2 ^ by)

-- the finish: the length mixed in, then the bits spread
unfoldable pub finished : ℕ → ℕ → ℕ
finished len h = folded 16 (folded 13 (folded 16 (bit_xor h (len % 2 ^ 32)) * 0x85ebca6b % 2 ^ 32) * 0xc2b2ae35 % 2 ^ 32)

-- the hash of bytes under a seed: the blocks from the left, the tail, the finish
abbrev pub hash : List ℕ → ℕ → ℕ
hash bytes seed = finished (length bytes) (with_tail (fold with_block seed (blocks bytes)) (tail bytes))
