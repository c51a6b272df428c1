-- What is tallied of the bytes of a stream.
use Rattle.std.specs.Prelude.{◌≡◌, ◌≢◌, ◌<◌, ◌⊎◌, ℕ, ◌+◌, nat_lt, Bool, true, false, List, [], ◌∷◌, ◌++◌, length, if◌then◌else◌, Result, Ok, Err}
use Rattle.byte_streams.specs.Lines.{parts_of}
use Rattle.note_tallies.specs.Lines.{Tallied, finished}
use Rattle.note_streams.specs.Record.{most_line}
use Rattle.note_tallies.specs.Filter.{Filtered, RefusesLine, Takes}
use Rattle.note_tallies.specs.declared.filter_fault.FilterFault.{FilterFault}
use Rattle.note_tallies.specs.declared.filter_fault.FilterFault.TheVariants as filter
use Rattle.note_streams.specs.Recorded.{most_bytes}
use Rattle.note_streams.specs.Rest.{is_empty, is_torn}
use Rattle.note_streams.specs.declared.stop.TallyStop.{TallyStop}
use Rattle.note_streams.specs.declared.stop.TallyStop.TheVariants.{Filter, Unreadable, TooLong}
use Rattle.note_streams.specs.declared.tallying.StreamTally.{StreamTally}

-- a tally, of which so many lines were taken
abbrev pub behind : Tallied → ℕ → Filtered
behind t n = record { tally = t; lines = n }

-- what the next line changes, which is here without its line feed
abbrev pub TakesNext : Tallied → List ℕ → Tallied → Type 0
TakesNext t line new = (nat_lt most_line (length line) ≡ false) × Takes t (line ++ 10 ∷ []) new

-- why it is refused: it has too many bytes, or by the rules of a filter
abbrev pub RefusesNext : Tallied → ℕ → List ℕ → FilterFault → Type 0
RefusesNext t n line fault =
    ((nat_lt most_line (length line) ≡ true) × (fault ≡ filter.Line (n + 1)))
    ⊎ ((nat_lt most_line (length line) ≡ false) × RefusesLine (behind t n) (line ++ 10 ∷ []) fault (behind t n))

-- the lines of a stream are taken one after another, of whose parts the last is none, up to the first that is refused
abbrev pub Tallies : Tallied → ℕ → List (List ℕ) → Result Tallied FilterFault → Type 0
Tallies t n [] r = r ≡ Ok t
Tallies t n (rest ∷ []) r = r ≡ (if nat_lt most_line (length rest) then Err (filter.Line (n + 1)) else Ok t)
Tallies t n (line ∷ next ∷ parts) r =
    ((new : Tallied) × TakesNext t line new × Tallies new (n + 1) (next ∷ parts) r)
    ⊎ ((fault : FilterFault) × RefusesNext t n line fault × (r ≡ Err fault))

-- The tally of a stream of these bytes, from this one on, and what of it is passed over; or why there is none.
abbrev pub TalliesStream : Tallied → List ℕ → Bool → Result StreamTally TallyStop → Type 0
TalliesStream start bytes is_cut (Ok t) = (last : Tallied) × Tallies start 0 (parts_of bytes) (Ok last) × (t.tally ≡ finished last) × (t.torn ≡ is_torn bytes) × (t.empty ≡ is_empty bytes)
TalliesStream start bytes is_cut (Err (Filter fault)) = fault ≢ filter.WantOfMemory → Tallies start 0 (parts_of bytes) (Err fault)
TalliesStream start bytes is_cut (Err Unreadable) = is_cut ≡ true
TalliesStream start bytes is_cut (Err TooLong) = most_bytes < length bytes
