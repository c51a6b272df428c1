-- Lines of bytes (JSON Lines, https://jsonlines.org).
use Rattle.std.specs.Prelude.{◌≡◌, ◌≢◌, ◌<◌, ◌≤◌, ◌⊎◌, ◌==◌, ℕ, Bool, List, [], ◌∷◌, ◌++◌, count_by, length, take, slice_index}

-- the bytes are none, or end with a line feed
abbrev pub EndsLine : List ℕ → Type 0
EndsLine bytes = (bytes ≡ []) ⊎ ((front : List ℕ) × (bytes ≡ front ++ 10 ∷ []))

-- so many of the bytes are whole lines, and no line ends after them
abbrev pub IsWholePart : List ℕ → ℕ → Type 0
IsWholePart bytes n = (n ≤ length bytes) × EndsLine (take n bytes) × ((k : ℕ) → n ≤ k → k < length bytes → slice_index bytes k ≢ 10)

-- a line feed (ASCII)
abbrev pub ends_line : ℕ → Bool
ends_line byte = byte == 10

-- how many lines end in the bytes
abbrev pub lines_in : List ℕ → ℕ
lines_in bytes = count_by ends_line bytes
