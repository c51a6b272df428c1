-- What was read behind a number.
use Rattle.std.specs.Prelude.{◌≡◌, ◌<◌, ◌++◌, ℕ, List, [], ◌∷◌, Option, Some, None, Err}
use Rattle.flag_defs.specs.Document.{Definitions}
use Rattle.flag_defs.specs.Flags.{flags_view}
use Rattle.flag_defs.specs.Floats.{Marks, MeansFlags, MeansWithFloats, floats_view}
use Rattle.flag_defs.specs.declared.fault.DefFault.{DefFault}
use Rattle.sync_frames.specs.Snapshots.{Numbered, snapshot_view}
use Rattle.snap_core.specs.declared.snapshot.Snapshot.{Snapshot}
use Rattle.sync_frames.specs.Frames.{Frames, IsDocumentOf, Shows, frame_of, last_number}
use Rattle.sync_frames.specs.Feed.{snapshots_view}
use Rattle.sync_frames.specs.Header.{IsPart}
use Rattle.sync_frames.specs.declared.fault.FrameFault.{FrameFault}
use Rattle.sync_frames.specs.declared.received.Next.{Next}
use Rattle.sync_frames.specs.declared.received.Next.TheVariants.{Whole, Stop}
use Rattle.sync_frames.specs.declared.received.Received.{Received}
use Rattle.sync_frames.specs.declared.stage.Stage.{Stage}
use Rattle.sync_frames.specs.declared.stage.Stage.TheVariants as stage

-- the snapshot of the number and the document, or none where the document is refused
abbrev pub IsRead : ℕ → List ℕ → Option Snapshot → Type 0
IsRead number document None = (fault : DefFault) × MeansWithFloats document (Err fault)
IsRead number document (Some s) = (s.number ≡ number) × MeansFlags document (flags_view s.flags) (floats_view s.flags)

-- nothing is wrong with what is left, or a fault shows there
abbrev pub Ends : ℕ → List ℕ → Option FrameFault → Type 0
Ends last rest None = IsPart last rest
Ends last rest (Some fault) = Shows last rest fault

-- A frame of s stands first, and these bytes are behind it.
pub record IsFirst (last : ℕ) (s : Numbered) (bytes after : List ℕ) : Type 0 where
  pub document : List ℕ
  pub whole : bytes ≡ frame_of s.number document ++ after
  pub rises : last < s.number
  pub is_document : IsDocumentOf s document

-- the next snapshot with the bytes behind it, or why there is none
abbrev pub IsNext : ℕ → List ℕ → Next → Type 0
IsNext last bytes (Whole s after) = IsFirst last (snapshot_view s) bytes after.now
IsNext last bytes (Stop fault) = Ends last bytes fault

-- how a feed goes on from what is left
abbrev pub GoesOn : ℕ → List ℕ → List ℕ → Stage → Type 0
GoesOn last rest kept stage.Reading = IsPart last rest × (kept ≡ rest)
GoesOn last rest kept (stage.Faulty fault) = Shows last rest fault × (kept ≡ [])
GoesOn last rest kept stage.Failed = ⊥

-- Behind the first, the bytes have the frames of the other snapshots, and then the rest.
pub record HasRead (first : Numbered) (bytes rest : List ℕ) (snapshots : List Numbered) (last : ℕ) : Type 0 where
  pub others : List Numbered
  pub front : List ℕ
  pub whole : bytes ≡ front ++ rest
  pub all : snapshots ≡ first ∷ others
  pub frames : Frames first.number others front
  pub number : last ≡ last_number first.number others

-- A feed goes on from what is left.
pub record IsReceived (first : Numbered) (bytes : List ℕ) (r : Received) : Type 0 where
  pub rest : List ℕ
  pub read : HasRead first bytes rest (snapshots_view r.snapshots.items) r.last
  pub goes_on : GoesOn r.last rest r.kept.items r.stage

-- The document means the first snapshot's flags, and the bytes behind are read on.
pub record IsBehind (number : ℕ) (document bytes : List ℕ) (r : Received) : Type 0 where
  pub flags : Definitions
  pub floats : Marks
  pub means : MeansFlags document flags floats
  pub received : IsReceived (record { number = number; flags = flags; floats = floats }) bytes r

-- what was read of a whole frame and behind it; none where its document is refused
abbrev pub IsWholeRead : ℕ → List ℕ → List ℕ → Option Received → Type 0
IsWholeRead number document bytes None = (fault : DefFault) × MeansWithFloats document (Err fault)
IsWholeRead number document bytes (Some r) = IsBehind number document bytes r
