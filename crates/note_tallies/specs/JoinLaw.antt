-- The tally of a finite set of inputs of one page, or of hashes: the definition that a reader has to believe, with no word of how it is found.
use Rattle.std.specs.Prelude.{◌≡◌, ◌==◌, ℕ, List, [], ◌∷◌, ◌++◌, length, map, count_by, IsPermutation, Contains, Option, Some, None, Ok}
use Rattle.std.specs.List.{range_with_len}
use Rattle.std.specs.Option.{option_or}
use Rattle.std.specs.List.Sorted.{IsStrictlySortedBy}
use Rattle.bucket_core.specs.Point.{point_of, scale}
use Rattle.book_core.specs.Book.{Inputs}
use Rattle.book_core.specs.Page.{PageName, bytes_cmp}
use Rattle.book_core.specs.Hashed.{hash_of}
use Rattle.note_tallies.specs.Join.{Joins}
use Rattle.note_tallies.specs.Tally.{PageTally, hash_line_on, line_on}

abbrev pub first_line : List (List ℕ) → Option (List ℕ)
first_line [] = None
first_line (line ∷ lines) = Some line

abbrev pub last_line : List (List ℕ) → Option (List ℕ)
last_line [] = None
last_line (line ∷ lines) = option_or (last_line lines) (Some line)

-- how many of these are on each of so many points, by the point of each: of inputs `counts_of`
abbrev pub counts_by : {X : Type 0} → (ℕ → X → ℕ) → List X → ℕ → List ℕ
counts_by at xs total = map (λ p. count_by (λ x. at total x == p) xs) (range_with_len 0 total)

-- How many there are, and how many on each point. In which order they stand does not matter.
pub record IsTallyBy {X : Type 0} (at : ℕ → X → ℕ) (xs : List X) (t : PageTally) : Type 0 where
  pub inputs : t.inputs ≡ length xs
  pub counts : t.counts ≡ counts_by at xs t.total

-- Where their lines rise strictly, so that each is there once: their tally, with the first and the last line.
pub record IsRangeBy {X : Type 0} (line : PageName → X → List ℕ) (at : ℕ → X → ℕ) (xs : List X) (t : PageTally) : Type 0 where
  pub rising : IsStrictlySortedBy bytes_cmp (map (line t.page) xs)
  pub first : t.first ≡ first_line (map (line t.page) xs)
  pub last : t.last ≡ last_line (map (line t.page) xs)
  pub tally : IsTallyBy at xs t

-- ---- of inputs, which are at the points of their hashes

-- the lines of inputs of a page
abbrev pub lines_on : PageName → Inputs → List (List ℕ)
lines_on page inputs = map (line_on page) inputs

abbrev pub IsTallyOf : Inputs → PageTally → Type 0
IsTallyOf members t = IsTallyBy point_of members t

abbrev pub IsRangeOf : Inputs → PageTally → Type 0
IsRangeOf members t = IsRangeBy line_on point_of members t

-- ---- of hashes

abbrev pub IsTallyOfHashes : List ℕ → PageTally → Type 0
IsTallyOfHashes hashes t = IsTallyBy scale hashes t

abbrev pub IsRangeOfHashes : List ℕ → PageTally → Type 0
IsRangeOfHashes hashes t = IsRangeBy hash_line_on scale hashes t

-- ---- laws

abbrev pub Joined : {X : Type 0} → (PageName → X → List ℕ) → (ℕ → X → ℕ) → Type 0
Joined {X} line at = (one other both : PageTally) (some more : List X) → IsRangeBy line at some one → IsRangeBy line at more other → Joins one other (Ok both) → IsRangeBy line at (some ++ more) both

-- what is joined of the tallies of two sets of inputs is the tally of their union, in which each is there once
abbrev pub JoinsSets : Type 0
JoinsSets = Joined line_on point_of

-- the same of hashes
abbrev pub JoinsHashes : Type 0
JoinsHashes = Joined hash_line_on scale

-- a tally of inputs is one of them in any order, as of a book, whose order is not that of their lines
abbrev pub TalliesInAnyOrder : Type 0
TalliesInAnyOrder = (t : PageTally) (members others : Inputs) → IsTallyOf members t → IsPermutation members others → IsTallyOf others t

-- they are the hashes of the inputs, and of no other
abbrev pub AreHashesOf : List ℕ → Inputs → Type 0
AreHashesOf hashes inputs = (hash : ℕ) → (Contains hashes hash → Contains (map hash_of inputs) hash) × (Contains (map hash_of inputs) hash → Contains hashes hash)

-- each is there once
abbrev pub IsEachOnce : List ℕ → Type 0
IsEachOnce [] = Unit {0}
IsEachOnce (x ∷ xs) = ¬ (Contains xs x) × IsEachOnce xs

-- Where no two of the inputs have one hash, the tally of their hashes is that of the inputs. Where some have, it counts these once.
abbrev pub HashesStandForInputs : Type 0
HashesStandForInputs = (t : PageTally) (hashes : List ℕ) (inputs : Inputs) → IsRangeOfHashes hashes t → AreHashesOf hashes inputs → IsEachOnce (map hash_of inputs) → IsTallyOf inputs t
