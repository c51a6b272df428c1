-- Reading the lines of the points, in private contracts alone.
use Rattle.std.specs.Prelude.{◌≡◌, ◌≢◌, ℕ, ◌+◌, ◌≤◌, List, [], ◌++◌, length, get_or, count_by, nat_lt, sum, Result, Ok, Err}
use Rattle.note_tallies.specs.Tally.{PageTally, IsPageTally, most_at_point, most_in_all}
use Rattle.note_tallies.specs.File.{Head, points_text}
use Rattle.note_tallies.specs.Reading.{AreSmall, BeginNoPoint, BeginLow}
use Rattle.note_tallies.specs.declared.file_fault.TallyFileFault.{TallyFileFault}
use Rattle.note_tallies.specs.declared.file_fault.TallyFileFault.TheVariants.{WantOfMemory, Header, Page, Line, Order, Inputs}

-- behind the lines of these counts some bytes are left, and n lines stand before them
pub record AreCounted (bytes : List ℕ) (total : ℕ) (counts rest : List ℕ) (n : ℕ) : Type 0 where
  pub text : bytes ≡ points_text 0 counts ++ rest
  pub whole : length counts ≤ total
  pub small : AreSmall counts
  pub number : n ≡ 3 + count_by (nat_lt 0) counts

abbrev pub Refuses : List ℕ → ℕ → TallyFileFault → Type 0
Refuses bytes total WantOfMemory = Unit {0}
Refuses bytes total Header = ⊥
Refuses bytes total Page = ⊥
Refuses bytes total (Line n) = (counts : List ℕ) × (rest : List ℕ) × AreCounted bytes total counts rest n × (rest ≢ []) × BeginNoPoint total rest
Refuses bytes total (Order n) = (counts : List ℕ) × (rest : List ℕ) × AreCounted bytes total counts rest n × (rest ≢ []) × BeginLow total counts rest
Refuses bytes total Inputs = ⊥

-- the inputs are so many, and not too many
pub record AddsUp (counts : List ℕ) (inputs : ℕ) : Type 0 where
  pub small : (p : ℕ) → get_or counts p 0 ≤ most_at_point
  pub added : sum counts ≡ inputs
  pub few : inputs ≤ most_in_all

-- a tally with this second line and these counts
abbrev pub tally_with : Head → List ℕ → PageTally
tally_with h counts = record { page = h.page; total = h.total; first = h.first; last = h.last; inputs = h.inputs; counts = counts }

-- there is such a tally, or none since the inputs don't add up or are too many
abbrev pub AddsCounts : Head → List ℕ → Result PageTally TallyFileFault → Type 0
AddsCounts h counts (Ok t) = IsPageTally (tally_with h counts) × (t ≡ tally_with h counts)
AddsCounts h counts (Err Inputs) = IsPageTally (tally_with h counts) → ⊥
AddsCounts h counts (Err fault) = ⊥

-- the same of the bytes behind the second line
abbrev pub ReadsCounts : Head → List ℕ → Result PageTally TallyFileFault → Type 0
ReadsCounts h bytes (Ok t) = (counts : List ℕ) × (bytes ≡ points_text 0 counts) × IsPageTally (tally_with h counts) × (t ≡ tally_with h counts)
ReadsCounts h bytes (Err WantOfMemory) = Unit {0}
ReadsCounts h bytes (Err Header) = ⊥
ReadsCounts h bytes (Err Page) = ⊥
ReadsCounts h bytes (Err (Line n)) = Refuses bytes h.total (Line n)
ReadsCounts h bytes (Err (Order n)) = Refuses bytes h.total (Order n)
ReadsCounts h bytes (Err Inputs) = (counts : List ℕ) × (bytes ≡ points_text 0 counts) × (length counts ≡ h.total) × AreSmall counts × (IsPageTally (tally_with h counts) → ⊥)
