-- What a feed has been given.
use Rattle.std.specs.Prelude.{◌≡◌, ℕ, ◌++◌, List, [], map, Bool, true, false, Option, Some, None}
use Rattle.sync_frames.specs.Snapshots.{Numbered, snapshot_view}
use Rattle.snap_core.specs.declared.snapshot.Snapshot.{Snapshot}
use Rattle.sync_frames.specs.Frames.{Reads, Shows, Gains, ShowsFault, last_number}
use Rattle.sync_frames.specs.declared.fault.FrameFault.{FrameFault}
use Rattle.sync_frames.specs.declared.fault.FrameFault.TheVariants.{WantOfMemory, Failed}
use Rattle.sync_frames.specs.declared.feed.Feed.{Feed}
use Rattle.sync_frames.specs.declared.stage.Stage.{Stage}
use Rattle.sync_frames.specs.declared.stage.Stage.TheVariants as stage

-- The stream so far, as a feed knows of it: the last number and the rest, or a fault that the rest shows.
abbrev pub Stands : List ℕ → ℕ → List ℕ → Stage → Type 0
Stands stream last kept stage.Reading = (ss : List Numbered) × Reads stream ss kept × (last ≡ last_number 0 ss)
Stands stream last kept (stage.Faulty fault) = ShowsFault stream fault
Stands stream last kept stage.Failed = (fault : FrameFault) × ShowsFault stream fault

-- the feed may have been given this stream
abbrev pub HasBeenFed : Feed → List ℕ → Type 0
HasBeenFed feed stream = Stands stream feed.last feed.kept.items feed.stage

-- the feed has answered a fault
abbrev pub is_failed : Stage → Bool
is_failed stage.Failed = true
is_failed stage = false

-- the fault that it answers next
abbrev pub waiting_in : Stage → Option FrameFault
waiting_in (stage.Faulty fault) = Some fault
waiting_in stage.Failed = Some Failed
waiting_in stage.Reading = None

abbrev pub has_failed : Feed → Bool
has_failed feed = is_failed feed.stage

abbrev pub waiting : Feed → Option FrameFault
waiting feed = waiting_in feed.stage

abbrev pub snapshots_view : List Snapshot → List Numbered
snapshots_view ss = map snapshot_view ss

-- the feed is as it was, but for where its bytes lie
pub record IsSame (old new : Feed) : Type 0 where
  pub last : new.last ≡ old.last
  pub kept : new.kept.items ≡ old.kept.items
  pub stage : new.stage ≡ old.stage

-- With the piece the feed's rest shows this fault.
pub record FaultWith (feed : Feed) (piece : List ℕ) (fault : FrameFault) : Type 0 where
  pub reading : feed.stage ≡ stage.Reading
  pub shows : Shows feed.last (feed.kept.items ++ piece) fault

-- A fault of the stream is answered, where none was answered before and no frame has become whole.
pub record Faults (old new : Feed) (piece : List ℕ) (fault : FrameFault) : Type 0 where
  pub first : has_failed old ≡ false
  pub failed : has_failed new ≡ true
  pub shown : (stream : List ℕ) → HasBeenFed old stream → HasBeenFed new (stream ++ piece) × Gains stream (stream ++ piece) [] × ShowsFault (stream ++ piece) fault

-- What a refusal says: want of memory leaves the feed as it was, Failed comes after a fault, and each other one is that of the stream.
abbrev pub Refuses : Feed → Feed → List ℕ → FrameFault → Type 0
Refuses old new piece WantOfMemory = IsSame old new
Refuses old new piece Failed = (has_failed old ≡ true) × IsSame old new
Refuses old new piece fault = Faults old new piece fault

-- The snapshots are those whose frames have become whole.
abbrev pub Gives : Feed → Feed → List ℕ → List Numbered → Type 0
Gives old new piece ss = (stream : List ℕ) → HasBeenFed old stream → HasBeenFed new (stream ++ piece) × Gains stream (stream ++ piece) ss
