-- A connection to a stream of snapshots, by what its bytes so far amount to.
use Rattle.std.specs.Prelude.{◌≡◌, ℕ, List, [], ◌++◌}
use Rattle.sync_frames.specs.Feed.{Stands}
use Rattle.sync_frames.specs.Frames.{Shows}
use Rattle.sync_frames.specs.declared.fault.FrameFault.{FrameFault}
use Rattle.sync_frames.specs.declared.stage.Stage.{Stage}
use Rattle.sync_frames.specs.declared.stage.Stage.TheVariants as stage

-- the number of the last whole snapshot, the bytes behind its frame, and whether the stream has shown a fault
pub record Connection : Type 0 where
  pub last : ℕ
  pub kept : List ℕ
  pub stage : Stage

-- nothing has come yet
abbrev pub begun : Connection
begun = record { last = 0; kept = []; stage = stage.Reading }

-- these bytes may have come
abbrev pub HasGiven : Connection → List ℕ → Type 0
HasGiven c stream = Stands stream c.last c.kept c.stage

-- with a piece more, the bytes behind the last whole frame show this fault
pub record ShowsNow (c : Connection) (piece : List ℕ) (fault : FrameFault) : Type 0 where
  pub reading : c.stage ≡ stage.Reading
  pub shows : Shows c.last (c.kept ++ piece) fault
