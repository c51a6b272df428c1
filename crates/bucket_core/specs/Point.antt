-- Where a hash input falls among the points of a rule.
use Rattle.std.specs.Prelude.{ℕ, ◌*◌, ◌/◌, ◌^◌, List}
use Rattle.murmur_core.specs.Murmur.{hash}

-- a 32-bit hash as a part of 2^32, scaled to the total and rounded down
abbrev pub scale : ℕ → ℕ → ℕ
scale total h = h * total / 2 ^ 32

-- the point of a hash input: its hash with seed 0, scaled
unfoldable pub point_of : ℕ → List ℕ → ℕ
point_of total key = scale total (hash key 0)
