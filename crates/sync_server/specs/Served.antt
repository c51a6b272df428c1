-- What was written of a stream.
use Rattle.std.specs.Prelude.{◌≡◌, ℕ, ◌<◌, ◌≤◌, List, [], ◌∷◌, ◌++◌, length, Contains, Option, Some, None, Result, Ok, Err}
use Rattle.std.specs.List.{All}
use Rattle.std.specs.Io.KnownBytes.{Appends}
use Rattle.sync_frames.specs.Snapshots.{Numbered}
use Rattle.sync_frames.specs.Frames.{Frames, IsDocumentOf, frame_of, last_number}
use Rattle.sync_server.specs.declared.end.StreamEnd.{StreamEnd}
use Rattle.sync_server.specs.declared.serve.Progress.{Progress}
use Rattle.sync_server.specs.declared.end.StreamEnd.TheVariants.{Closed, Limit, WriteFault}
use Rattle.sync_server.specs.Turns.{Turned, latest, newer}

-- these bytes begin a frame of s, and are not all of it
abbrev pub BeginsFrameOf : Numbered → List ℕ → Type 0
BeginsFrameOf s part = (d : List ℕ) × (rest : List ℕ) × IsDocumentOf s d × (frame_of s.number d ≡ part ++ rest) × (length part < length (frame_of s.number d))

-- Whole frames of these snapshots, whose numbers rise. Where the writer failed one more was read, of whose frame a part may
-- follow.
abbrev pub Written : List Numbered → List Numbered → List ℕ → StreamEnd → Option Numbered → Type 0
Written known ss out WriteFault (Some s) =
    (whole : List ℕ) × (part : List ℕ) × (out ≡ whole ++ part) × Frames 0 ss whole × Contains known s × (last_number 0 ss < s.number) × BeginsFrameOf s part
Written known ss out WriteFault None = ⊥
Written known ss out end more = (more ≡ None) × Frames 0 ss out

-- So far these of the known snapshots were read, one a turn, and known bytes have grown by the frames of those `count` that
-- were newer than all before, the last with the number `last`.
pub record Sent (known : List Numbered) (before now : Option (List ℕ)) (read : List Numbered) (last count : ℕ) : Type 0 where
  pub out : List ℕ
  pub written : Appends before now out
  pub counted : length (newer 0 read) ≡ count
  pub all_known : All (Contains known) read
  pub frames : Frames 0 (newer 0 read) out
  pub number : last ≡ latest 0 read

-- Each turn that went on asked for a number above the last that was written, and then read a snapshot; at the limit there
-- were so many. Else there was one turn more, which asked so too, and, but where there was no number, read what was there.
abbrev pub TurnedTo : {X C : Type 0} → (X → ℕ → X → Type 0) → (C → Option Numbered → C → Type 0) → X → C → List Numbered → X → C → ℕ → StreamEnd → Option Numbered → Type 0
TurnedTo asked was_read x c read y d limit Limit more = Turned asked was_read 0 x c read y d × (length read ≡ limit)
TurnedTo asked was_read x c read y d limit Closed more = (z : _) × Turned asked was_read 0 x c read z d × asked z (latest 0 read) y × (length read < limit)
TurnedTo asked was_read x c read y d limit end more =
    (z : _) × (e : _) × Turned asked was_read 0 x c read z e × asked z (latest 0 read) y × was_read e more d × (length read < limit)

-- Of the known snapshots that were read in turn, those that were newer than all before are `count`, and known bytes have
-- grown by their frames.
abbrev pub Ended : List Numbered → Option (List ℕ) → Option (List ℕ) → List Numbered → ℕ → StreamEnd → Option Numbered → Type 0
Ended known before after read count end more =
    (out : List ℕ) × Appends before after out × (length (newer 0 read) ≡ count) × All (Contains known) read × Written known (newer 0 read) out end more

-- what was written, and what was asked for and read for it
abbrev pub Serves : {X C : Type 0} → (X → ℕ → X → Type 0) → (C → Option Numbered → C → Type 0) → X → X → C → C → ℕ → List Numbered → Option (List ℕ) → Option (List ℕ) → ℕ → StreamEnd → Type 0
Serves asked was_read next next' current current' limit known before after count end =
    (read : List Numbered) × (more : Option Numbered) × Ended known before after read count end more × TurnedTo asked was_read next current read next' current' limit end more

-- What was read in a turn and written of it: its frame where its number is above the last, a part of that, or nothing.
abbrev pub Wrote : {C : Type 0} → (C → Option Numbered → C → Type 0) → C → C → List Numbered → ℕ → Option (List ℕ) → Option (List ℕ) → Result (Option ℕ) StreamEnd → Type 0
Wrote was_read c d known last before after (Ok None) = (s : Numbered) × was_read c (Some s) d × Contains known s × (s.number ≤ last) × Appends before after []
Wrote was_read c d known last before after (Ok (Some n)) =
    (s : Numbered) × was_read c (Some s) d × (text : List ℕ) × IsDocumentOf s text × Contains known s × (last < s.number) × (n ≡ s.number) × Appends before after (frame_of s.number text)
Wrote was_read c d known last before after (Err WriteFault) =
    (s : Numbered) × was_read c (Some s) d × (part : List ℕ) × Contains known s × (last < s.number) × BeginsFrameOf s part × Appends before after part
Wrote was_read c d known last before after (Err end) = was_read c None d × Appends before after []

-- what was sent before goes on, by what is read, known and written after a turn
abbrev pub SendsOn : {C : Type 0} → (C → Option Numbered → C → Type 0) → C → C → List Numbered → List Numbered → Option (List ℕ) → Option (List ℕ) → Progress → Progress → Type 0
SendsOn was_read c d known known' out out' old new =
    (s : Numbered) × was_read c (Some s) d
    × ((before : Option (List ℕ)) (read : List Numbered) → Sent known before out read old.last old.count → Sent known' before out' (read ++ s ∷ []) new.last new.count)

-- what was sent before ends with this turn
abbrev pub SendsLast : {C : Type 0} → (C → Option Numbered → C → Type 0) → C → C → List Numbered → List Numbered → Option (List ℕ) → Option (List ℕ) → Progress → Progress → StreamEnd → Type 0
SendsLast was_read c d known known' out out' old new end =
    (more : Option Numbered) × was_read c more d
    × ((before : Option (List ℕ)) (read : List Numbered) → Sent known before out read old.last old.count → Ended known' before out' read new.count end more)
