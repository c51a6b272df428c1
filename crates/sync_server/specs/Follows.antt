-- What a sink was handed of a stream.
use Rattle.std.specs.Prelude.{◌≡◌, ℕ, List, ◌++◌, Option, Some, None, Bool, true, false, is_none}
use Rattle.std.specs.Io.KnownBytes.{Consumes}
use Rattle.sync_frames.specs.Snapshots.{Numbered}
use Rattle.sync_frames.specs.Feed.{HasBeenFed, has_failed}
use Rattle.sync_frames.specs.Frames.{ShowsNothing, IsDone}
use Rattle.sync_frames.specs.declared.feed.Feed.{Feed}
use Rattle.sync_server.specs.End.{is_limit_read}
use Rattle.sync_server.specs.Ends.{AllOf, FirstOf, Ends}
use Rattle.sync_server.specs.Handed.{Handed}
use Rattle.sync_server.specs.declared.end.ReadEnd.{ReadEnd}
use Rattle.sync_server.specs.declared.end.ReadEnd.TheVariants.{Ended, EndedInside}
use Rattle.sync_server.specs.declared.follow.Step.{Step}
use Rattle.sync_server.specs.declared.follow.Step.TheVariants.{GoesOn, Ends as StepEnds, Full}

-- how the stream was followed to its end, or to the snapshot that the sink did not take
abbrev pub FollowedTo : List ℕ → List Numbered → Option (List ℕ) → Bool → Option ReadEnd → Type 0
FollowedTo stream ss left broken (Some end) = Ends stream ss left broken end
FollowedTo stream ss left broken None = FirstOf stream ss

-- The sink, by what it says of taking and refusing one, was handed the snapshots of what was taken from the input.
abbrev pub Follows : {X : Type 0} → (X → Numbered → X → Type 0) → (X → Numbered → X → Type 0) → Option (List ℕ) → Option (List ℕ) → Bool → X → X → Option ReadEnd → Type 0
Follows took refused before left broken old new result =
    (stream : List ℕ) × (ss : List Numbered) × Consumes before left stream × Handed took refused old ss (is_none result) new × FollowedTo stream ss left broken result

-- what a feed that was given the stream goes on with, and all that is whole there was handed on
abbrev pub Stands : Feed → List ℕ → List Numbered → Type 0
Stands feed stream ss = HasBeenFed feed stream × AllOf stream ss × ShowsNothing stream

-- where one step with more of the stream leads
abbrev pub LeadsTo : Feed → List ℕ → List Numbered → Option (List ℕ) → Bool → Step → Type 0
LeadsTo feed stream ss left broken GoesOn = Stands feed stream ss × (has_failed feed ≡ false) × (broken ≡ false)
LeadsTo feed stream ss left broken (StepEnds end) = Ends stream ss left broken end
LeadsTo feed stream ss left broken Full = FirstOf stream ss

-- the sink did not take a snapshot
abbrev pub is_full : Step → Bool
is_full Full = true
is_full step = false

-- the step ends with the limit, which no step does
abbrev pub is_limit : Step → Bool
is_limit (StepEnds end) = is_limit_read end
is_limit step = false

-- A step takes a piece of the input, and hands its snapshots on.
abbrev pub Steps : {X : Type 0} → (X → Numbered → X → Type 0) → (X → Numbered → X → Type 0) → Option (List ℕ) → Option (List ℕ) → Bool → Feed → Feed → X → X → Step → Type 0
Steps took refused before left broken feed feed' old new step =
    (piece : List ℕ) × (more : List Numbered) × Consumes before left piece × Handed took refused old more (is_full step) new
    × ((stream : List ℕ) (ss : List Numbered) → Stands feed stream ss → LeadsTo feed' (stream ++ piece) (ss ++ more) left broken step)

-- how the reading ends where the input does: by whether all of the stream is whole frames
abbrev pub AtEnd : List ℕ → ReadEnd → Type 0
AtEnd stream Ended = IsDone stream
AtEnd stream EndedInside = IsDone stream → ⊥
AtEnd stream end = ⊥

-- a stream that stood so is led on by a piece of it, which has these snapshots
abbrev pub LeadsOn : Feed → Feed → List ℕ → List Numbered → Step → Type 0
LeadsOn feed feed' piece more step =
    (stream : List ℕ) (ss : List Numbered) (left : Option (List ℕ)) → Stands feed stream ss → LeadsTo feed' (stream ++ piece) (ss ++ more) left false step
