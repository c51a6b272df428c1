-- Where whole lines end, piece by piece, in private contracts alone.
use Rattle.std.specs.Prelude.{◌≢◌, ◌+◌, ◌<◌, ◌≤◌, ℕ, List, length, take, slice_index}
use Rattle.log_file.specs.Line.{EndsLine}

-- no line feed stands from place i up to j
abbrev pub HasNoLine : List ℕ → ℕ → ℕ → Type 0
HasNoLine bytes i j = (k : ℕ) → i ≤ k → k < j → slice_index bytes k ≢ 10

-- of the bytes from a place on, so many of them, the last line feed is the one before n, or there is none and n is 0
pub record IsWholeIn (start count n : ℕ) (bytes : List ℕ) : Type 0 where
  pub within : start + count ≤ length bytes
  pub most : n ≤ count
  pub ends : 0 < n → EndsLine (take (start + n) bytes)
  pub after : HasNoLine bytes (start + n) (start + count)

-- no line feed stands from the place on
abbrev pub HasNoLineFrom : ℕ → List ℕ → Type 0
HasNoLineFrom i bytes = (i ≤ length bytes) × HasNoLine bytes i (length bytes)
