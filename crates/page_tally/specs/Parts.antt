-- Lines of a page that are read by themselves, before it is known what stands before them.
use Rattle.std.specs.Prelude.{◌≡◌, ℕ, ◌+◌, ◌≤◌, List, [], ◌∷◌, ◌++◌, length, drop, true, Option}
use Rattle.std.specs.Ordering.{is_lt}
use Rattle.book_core.specs.Book.{Inputs, most_bytes}
use Rattle.book_core.specs.Page.{bytes_cmp}
use Rattle.book_core.specs.Reading.{lines_of}
use Rattle.page_tally.specs.Points.{points_if}
use Rattle.page_tally.specs.Runs.{last_of_run, with_lines}
use Rattle.page_tally.specs.declared.part.Part.{Part}

-- after this one, each input is above the one before it, and has no more bytes than an input may have
abbrev pub AreRising : List ℕ → Inputs → Type 0
AreRising last [] = Unit {0}
AreRising last (input ∷ inputs) = (is_lt (bytes_cmp last input) ≡ true) × (length input ≤ most_bytes) × AreRising input inputs

-- these bytes stand last among the others
abbrev pub IsEndOf : List ℕ → List ℕ → Type 0
IsEndOf bytes end = (n : ℕ) × (end ≡ drop n bytes)

-- the lines that stand first among the bytes are those of the part's first input and of these others, with their points
pub record IsPart (bytes : List ℕ) (total : Option ℕ) (others : Inputs) (part : Part) : Type 0 where
  pub lines : lines_of bytes ≡ with_lines (part.first.now ∷ others) (lines_of part.rest.now)
  pub short : length part.first.now ≤ most_bytes
  pub rising : AreRising part.first.now others
  pub last : part.last.now ≡ last_of_run part.first.now others
  pub inputs : part.inputs ≡ length others + 1
  pub points : part.points.items ≡ points_if total (part.first.now ∷ others)
  pub fits : part.inputs + length part.rest.now ≤ length bytes
  pub behind : IsEndOf bytes part.rest.now

-- such a part, whatever its other inputs
abbrev pub IsPartOf : List ℕ → Option ℕ → Part → Type 0
IsPartOf bytes total part = (others : Inputs) × IsPart bytes total others part

-- the whole has the inputs of the one part and then those of the other, and ends where that ends
pub record IsJoined (one other whole : Part) : Type 0 where
  pub first : whole.first.now ≡ one.first.now
  pub last : whole.last.now ≡ other.last.now
  pub inputs : whole.inputs ≡ one.inputs + other.inputs
  pub points : whole.points.items ≡ one.points.items ++ other.points.items
  pub rest : whole.rest.now ≡ other.rest.now
