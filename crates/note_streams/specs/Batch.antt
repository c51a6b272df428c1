-- What is made of one batch of bytes, in private contracts alone.
use denote.Ref.{Bor}
use Rattle.std.specs.Prelude.{◌≡◌, ◌≢◌, ◌<◌, ◌≤◌, ◌⊎◌, ℕ, ◌+◌, true, false, List, ◌++◌, length, Option, Some, None, Result, Ok, Err}
use Rattle.std.specs.Io.KnownBytes.{Appends}
use Rattle.flag_text.specs.Outlet.{AppendsPart}
use Rattle.byte_streams.specs.Lines.{HasNoFeed, IsCut, parts_of}
use Rattle.note_tallies.specs.Lines.{Tallied}
use Rattle.note_streams.specs.Outcomes.{Outcomes, both}
use Rattle.note_streams.specs.Record.{Recorded, Scene, joined, most_line, record_of}
use Rattle.note_tallies.specs.Filter.{Filtered}
use Rattle.note_tallies.specs.declared.filter_fault.FilterFault.{FilterFault}
use Rattle.note_tallies.specs.declared.filter_fault.FilterFault.TheVariants as filter
use Rattle.note_streams.specs.Recorded.{recorded_of}
use Rattle.note_streams.specs.Rest.{is_torn}
use Rattle.note_streams.specs.Tallied.{Tallies}
use Rattle.note_streams.specs.declared.stop.RecordStop.{RecordStop}
use Rattle.note_streams.specs.declared.stop.RecordStop.TheVariants.{WantOfMemory, Line, Unreadable, TooLong, Broken}
use Rattle.note_streams.specs.declared.stop.TallyStop.{TallyStop}
use Rattle.note_streams.specs.declared.stop.TallyStop.TheVariants as tally

-- what a batch leaves to record
pub record Leaves (s : Scene) (bytes rest : List ℕ) (before after : ℕ) (old new : Option (List ℕ)) : Type 0 where
  pub lines : List (List ℕ)
  pub cut : IsCut bytes lines rest
  pub none : HasNoFeed rest
  pub good : (record_of s lines).refused ≡ false
  pub short : length rest ≤ most_line
  pub number : after ≡ before + (record_of s lines).lines
  pub few : (record_of s lines).lines + length rest ≤ length bytes
  pub text : Appends old new (record_of s lines).text

-- where a batch ends: a line of it is no context, or what stands behind its lines is too long for one
pub record Stops (s : Scene) (bytes : List ℕ) (before n : ℕ) (old new : Option (List ℕ)) : Type 0 where
  pub lines : List (List ℕ)
  pub rest : List ℕ
  pub cut : IsCut bytes lines rest
  pub none : HasNoFeed rest
  pub why :
      (((record_of s lines).refused ≡ true) × (n ≡ before + (record_of s lines).lines))
      ⊎ (((record_of s lines).refused ≡ false) × (most_line < length rest) × (n ≡ before + (record_of s lines).lines + 1))
  pub text : Appends old new (record_of s lines).text

-- a front of its note lines was written
pub record Fronts (s : Scene) (bytes : List ℕ) (old new : Option (List ℕ)) : Type 0 where
  pub lines : List (List ℕ)
  pub rest : List ℕ
  pub cut : IsCut bytes lines rest
  pub text : AppendsPart old new (record_of s lines).text

abbrev pub RecordsBatch : Scene → List ℕ → ℕ → ℕ → Option (List ℕ) → Option (List ℕ) → Result (Bor (List ℕ)) RecordStop → Type 0
RecordsBatch s bytes before after old new (Ok rest) = Leaves s bytes rest.now before after old new
RecordsBatch s bytes before after old new (Err (Line n)) = Stops s bytes before n old new
RecordsBatch s bytes before after old new (Err Unreadable) = ⊥
RecordsBatch s bytes before after old new (Err TooLong) = ⊥
RecordsBatch s bytes before after old new (Err Broken) = Fronts s bytes old new
RecordsBatch s bytes before after old new (Err WantOfMemory) = new ≡ old

-- the bytes that are left of a stream of known bytes, behind those of which so much is recorded
abbrev pub Follows : Scene → List ℕ → List ℕ → ℕ → Recorded → Option (List ℕ) → Type 0
Follows s bytes held taken acc None = ⊥
Follows s bytes held taken acc (Some left) = (joined acc (recorded_of s (held ++ left)) ≡ recorded_of s bytes) × (taken + length left ≡ length bytes) × (is_torn (held ++ left) ≡ is_torn bytes)

-- so much is recorded and written of a stream of known bytes, of which these are held
pub record Stands (s : Scene) (bytes held : List ℕ) (lines taken : ℕ) (now old new : Option (List ℕ)) : Type 0 where
  pub acc : Recorded
  pub good : acc.refused ≡ false
  pub number : acc.lines ≡ lines
  pub text : Appends old new acc.text
  pub follows : Follows s bytes held taken acc now

-- What is counted before a batch, and what comes of the contexts in it and behind it, is what is counted behind it, and what comes of those in
-- the rest and behind that.
abbrev pub CountsBatch : Scene → List ℕ → List ℕ → Outcomes → Outcomes → Type 0
CountsBatch s bytes rest before after = (more : List ℕ) → both after (recorded_of s (rest ++ more)).outcomes ≡ both before (recorded_of s (bytes ++ more)).outcomes

-- the same of a stream of known bytes, of which these are held and these are left
abbrev pub CountsAll : Scene → List ℕ → List ℕ → Outcomes → Option (List ℕ) → Type 0
CountsAll s bytes held counted None = ⊥
CountsAll s bytes held counted (Some left) = both counted (recorded_of s (held ++ left)).outcomes ≡ (recorded_of s bytes).outcomes

-- ---- tallies

-- what is tallied of the rest from here on is what is tallied of all
abbrev pub Goes : Filtered → List ℕ → Filtered → List ℕ → Type 0
Goes old bytes new rest = (more : List ℕ) (r : Result Tallied FilterFault) → Tallies new.tally new.lines (parts_of (rest ++ more)) r → Tallies old.tally old.lines (parts_of (bytes ++ more)) r

-- what stands behind the last line of the rest stands behind that of all, whatever follows
abbrev pub KeepsRest : List ℕ → List ℕ → Type 0
KeepsRest bytes rest = (more : List ℕ) → is_torn (rest ++ more) ≡ is_torn (bytes ++ more)

pub record LeavesLines (bytes rest : List ℕ) (old new : Filtered) : Type 0 where
  pub none : HasNoFeed rest
  pub short : length rest ≤ most_line
  pub few : new.lines + length rest ≤ old.lines + length bytes
  pub goes : Goes old bytes new rest
  pub keeps : KeepsRest bytes rest

abbrev pub TalliesBatch : List ℕ → Filtered → Filtered → Result (Bor (List ℕ)) TallyStop → Type 0
TalliesBatch bytes old new (Ok rest) = LeavesLines bytes rest.now old new
TalliesBatch bytes old new (Err (tally.Filter fault)) = fault ≢ filter.WantOfMemory → (more : List ℕ) → Tallies old.tally old.lines (parts_of (bytes ++ more)) (Err fault)
TalliesBatch bytes old new (Err tally.Unreadable) = ⊥
TalliesBatch bytes old new (Err tally.TooLong) = ⊥

-- what is tallied of the bytes that are held and left is what is tallied of all, of a stream of known bytes
abbrev pub GoesOn : Tallied → List ℕ → List ℕ → ℕ → Filtered → Option (List ℕ) → Type 0
GoesOn start bytes held taken f None = ⊥
GoesOn start bytes held taken f (Some left) =
    ((r : Result Tallied FilterFault) → Tallies f.tally f.lines (parts_of (held ++ left)) r → Tallies start 0 (parts_of bytes) r) × (taken + length left ≡ length bytes) × (is_torn (held ++ left) ≡ is_torn bytes)
