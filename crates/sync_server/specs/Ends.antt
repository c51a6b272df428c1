-- What was read of a stream, and how the reading ended.
use Rattle.std.specs.Prelude.{◌≡◌, ℕ, List, ◌++◌, Option, Bool, true, false}
use Rattle.std.specs.Io.KnownBytes.{Consumes, IsAtEnd}
use Rattle.sync_frames.specs.Snapshots.{Numbered}
use Rattle.sync_frames.specs.Frames.{Reads, ShowsFault, ShowsNothing, IsDone}
use Rattle.sync_server.specs.declared.end.ReadEnd.{ReadEnd}
use Rattle.sync_server.specs.declared.end.ReadEnd.TheVariants.{Ended, EndedInside, Limit, Frame, ReadFault, WantOfMemory}

-- all that is whole in the stream
abbrev pub AllOf : List ℕ → List Numbered → Type 0
AllOf stream ss = (rest : List ℕ) × Reads stream ss rest

-- the first of those that are whole in a front of the stream
abbrev pub FirstOf : List ℕ → List Numbered → Type 0
FirstOf stream ss = (front : List ℕ) × (behind : List ℕ) × (more : List Numbered) × (stream ≡ front ++ behind) × AllOf front (ss ++ more)

-- The bytes read are the stream: how they, and the reading of them, ended. `left` is what is known to be left to read, and
-- `broken` whether a read has failed.
abbrev pub Ends : List ℕ → List Numbered → Option (List ℕ) → Bool → ReadEnd → Type 0
Ends stream ss left broken Ended = AllOf stream ss × IsAtEnd left × IsDone stream × (broken ≡ false)
Ends stream ss left broken EndedInside = AllOf stream ss × IsAtEnd left × ShowsNothing stream × (IsDone stream → ⊥) × (broken ≡ false)
Ends stream ss left broken Limit = AllOf stream ss × ShowsNothing stream × (broken ≡ false)
Ends stream ss left broken (Frame fault) = AllOf stream ss × ShowsFault stream fault × (broken ≡ false)
Ends stream ss left broken ReadFault = AllOf stream ss × ShowsNothing stream × (broken ≡ true)
Ends stream ss left broken WantOfMemory = FirstOf stream ss

-- some stream was taken from the input, and ended so
abbrev pub ReadsTo : Option (List ℕ) → Option (List ℕ) → Bool → List Numbered → ReadEnd → Type 0
ReadsTo before left broken ss end = (stream : List ℕ) × Consumes before left stream × Ends stream ss left broken end
