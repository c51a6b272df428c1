-- Lines that are kept until somebody takes them: each once, in the order in which they came, up to so many bytes.
use Rattle.std.specs.Prelude.{ℕ, ◌+◌, List, [], ◌∷◌, ◌++◌, length, nat_lt, Bool, true, false, if◌then◌else◌, ◌⊎◌}
use Rattle.std.specs.List.{Contains, concat, list_any}
use Rattle.std.specs.Str.{bytes_eq}

-- the lines, the most bytes that they may have together, and whether one was left out since lines were last taken
pub record Kept : Type 0 where
  pub lines : List (List ℕ)
  pub most : ℕ
  pub full : Bool

-- nothing yet
abbrev pub nothing : ℕ → Kept
nothing most = record { lines = []; most = most; full = false }

-- a line more, where there is room for it
abbrev pub with_room : Kept → List ℕ → Kept
with_room kept line =
    if nat_lt kept.most (length (concat kept.lines) + length line)
    then record kept { full = true }
    else record kept { lines = kept.lines ++ line ∷ [] }

-- a line more, which is kept once
unfoldable pub with_line : Kept → List ℕ → Kept
with_line kept line = if list_any (bytes_eq line) kept.lines then kept else with_room kept line

-- lines more, one after another
abbrev pub with_lines : Kept → List (List ℕ) → Kept
with_lines kept [] = kept
with_lines kept (line ∷ lines) = with_lines (with_line kept line) lines

-- For laws: a line is one of these, or of those.
abbrev pub IsOneOf : List (List ℕ) → List (List ℕ) → List ℕ → Type 0
IsOneOf these those line = Contains these line ⊎ Contains those line
