-- The lines of bytes (JSON Lines, https://jsonlines.org): each ends with a line feed.
use denote.Ref.{Bor}
use Rattle.std.specs.Prelude.{◌≡◌, ◌==◌, ℕ, Bool, false, List, [], ◌∷◌, ◌++◌, map}
use Rattle.std.specs.List.{AllByRecursion, slice_split}

abbrev pub is_feed : ℕ → Bool
is_feed b = b == 10

-- no byte is a line feed
abbrev pub HasNoFeed : List ℕ → Type 0
HasNoFeed bytes = AllByRecursion (λ (b : ℕ). is_feed b ≡ false) bytes

-- the lines that ended, without their line feeds, and what stands behind the last of these, which is no line
unfoldable pub parts_of : List ℕ → List (List ℕ)
parts_of bytes = slice_split is_feed bytes

-- whatever follows the bytes, these are the lines that ended in them, and the rest stands behind
abbrev pub IsCut : List ℕ → List (List ℕ) → List ℕ → Type 0
IsCut bytes lines rest = (more : List ℕ) → parts_of (bytes ++ more) ≡ lines ++ parts_of (rest ++ more)

-- the line is the first one with its line feed, and the rest stands behind it
pub record IsFirst (bytes line rest : List ℕ) : Type 0 where
  pub text : List ℕ
  pub none : HasNoFeed text
  pub ended : line ≡ text ++ 10 ∷ []
  pub whole : bytes ≡ text ++ 10 ∷ rest

-- the lines of the program, without where they lie in memory
abbrev pub lines_view : List (Bor (List ℕ)) → List (List ℕ)
lines_view lines = map (λ line. line.now) lines
