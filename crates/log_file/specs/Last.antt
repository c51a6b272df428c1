-- The last lines of bytes, as tail -n prints them (POSIX, tail).
use Rattle.std.specs.Prelude.{◌≡◌, ◌≤◌, ◌+◌, ℕ, List, ◌++◌, drop, length, min}
use Rattle.log_file.specs.Line.{EndsLine, lines_in}

-- the bytes end with these, which are so many whole lines of them, or all where there are fewer
pub record AreLastLines (most : ℕ) (bytes last : List ℕ) : Type 0 where
  pub before : List ℕ
  pub parts : bytes ≡ before ++ last
  pub starts : EndsLine before
  pub count : lines_in last ≡ min most (lines_in bytes)

-- ---- in private contracts alone

-- place n is where the last lines begin
abbrev pub IsLastStart : ℕ → ℕ → List ℕ → Type 0
IsLastStart most n bytes = (last : List ℕ) × (lines : AreLastLines most bytes last) × (length lines.before ≡ n)

-- from a place on so many lines end that so many are left to most
abbrev pub LeavesOf : ℕ → ℕ → ℕ → List ℕ → Type 0
LeavesOf most place left bytes = (place ≤ length bytes) × (lines_in (drop place bytes) + left ≡ most)

-- the bytes are so many whole lines, and then the rest
pub record SkipsLines (lines : ℕ) (bytes rest : List ℕ) : Type 0 where
  pub front : List ℕ
  pub parts : bytes ≡ front ++ rest
  pub ends : EndsLine front
  pub count : lines_in front ≡ lines
