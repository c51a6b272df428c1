-- A tally: how many inputs of one page fall on each of so many points, or how many hashes of inputs.
use Rattle.std.specs.Prelude.{◌≡◌, ℕ, ◌<◌, ◌≤◌, ◌⊎◌, List, length, get_or, sum, true, Option, Some, None}
use Rattle.std.specs.Ordering.{is_le}
use Rattle.limits.specs.Limits.{planned_total, point_inputs, tally_inputs}
use Rattle.book_core.specs.Page.{PageName, bytes_cmp}
use Rattle.book_core.specs.Hashed.{Hashed, IsHashed, has_hash, hashed_line}
use Rattle.book_core.specs.Note.{Noted, IsNote, note_line}

-- the most points of a tally
abbrev pub most_points : ℕ
most_points = planned_total

-- the most inputs on one point, and in all
abbrev pub most_at_point : ℕ
most_at_point = point_inputs

abbrev pub most_in_all : ℕ
most_in_all = tally_inputs

-- the page and the number of points; the least and the greatest line that were counted, none where there was none; how many were, and how many on each point.
-- The lines are either those of inputs or those of hashes, which in a tally stand for the inputs.
pub record PageTally : Type 0 where
  pub page : PageName
  pub total : ℕ
  pub first : Option (List ℕ)
  pub last : Option (List ℕ)
  pub inputs : ℕ
  pub counts : List ℕ

-- an input of a page, as a note
abbrev pub noted_on : PageName → List ℕ → Noted
noted_on page input = record { page = page; input = input }

-- the line of that note
abbrev pub line_on : PageName → List ℕ → List ℕ
line_on page input = note_line (noted_on page input)

-- the hash of an input of a page, as a note without its input
abbrev pub hashed_on : PageName → ℕ → Hashed
hashed_on page hash = record { page = page; hash = hash }

-- the line of that note
abbrev pub hash_line_on : PageName → ℕ → List ℕ
hash_line_on page hash = hashed_line (hashed_on page hash)

-- the line is that of an input of the page
abbrev pub IsInputLineOn : PageName → List ℕ → Type 0
IsInputLineOn page line = (input : List ℕ) × IsNote (noted_on page input) × (line ≡ line_on page input)

-- the line is that of the hash of an input of the page
abbrev pub IsHashLineOn : PageName → List ℕ → Type 0
IsHashLineOn page line = (hash : ℕ) × IsHashed (hashed_on page hash) × (line ≡ hash_line_on page hash)

-- one of both
abbrev pub IsLineOn : PageName → List ℕ → Type 0
IsLineOn page line = IsInputLineOn page line ⊎ IsHashLineOn page line

-- the least and the greatest line of so many inputs of the page, or of so many hashes
abbrev pub AreEnds : PageName → ℕ → Option (List ℕ) → Option (List ℕ) → Type 0
AreEnds page inputs None None = inputs ≡ 0
AreEnds page inputs (Some first) (Some last) = (0 < inputs) × IsLineOn page first × IsLineOn page last × (is_le (bytes_cmp first last) ≡ true) × (has_hash first ≡ has_hash last)
AreEnds page inputs first last = ⊥

-- a number of points that a tally may have
pub record IsTallyTotal (total : ℕ) : Type 0 where
  pub some : 0 < total
  pub few : total ≤ most_points

-- a count for each point, no more inputs than are counted on a point and in all, and the lines at both ends exactly where there are inputs
pub record IsPageTally (t : PageTally) : Type 0 where
  pub allowed : IsTallyTotal t.total
  pub whole : length t.counts ≡ t.total
  pub small : (p : ℕ) → get_or t.counts p 0 ≤ most_at_point
  pub added : sum t.counts ≡ t.inputs
  pub few : t.inputs ≤ most_in_all
  pub ends : AreEnds t.page t.inputs t.first t.last
