-- Published flags as snapshots.
use Rattle.std.specs.Prelude.{◌≡◌, ℕ, ◌+◌, List, [], ◌∷◌, length, Option, Some, None}
use mathlib.Core.List.{IsPrefix}
use Rattle.flag_defs.specs.Flags.{flags_view}
use Rattle.flag_defs.specs.Floats.{floats_view}
use Rattle.flag_defs.specs.declared.flags.Flags.{Flags}
use Rattle.sync_frames.specs.Snapshots.{Numbered}
use Rattle.snap_core.specs.declared.snapshot.Snapshot.{Snapshot}

abbrev pub last_of : {X : Type 0} → List X → Option X
last_of [] = None
last_of (x ∷ []) = Some x
last_of (x ∷ y ∷ ys) = last_of (y ∷ ys)

abbrev pub numbered : ℕ → Flags → Numbered
numbered n f = record { number = n; flags = flags_view f; floats = floats_view f }

abbrev pub numbered_from : ℕ → List Flags → List Numbered
numbered_from n [] = []
numbered_from n (f ∷ fs) = numbered n f ∷ numbered_from (n + 1) fs

-- the first flags that were published are snapshot 1, and so on
abbrev pub snapshots_of : List Flags → List Numbered
snapshots_of published = numbered_from 1 published

-- the snapshot is the last of these: its number is their length
abbrev pub IsLastOf : List Flags → Numbered → Type 0
IsLastOf published s = (f : Flags) × (last_of published ≡ Some f) × (s ≡ numbered (length published) f)

-- the snapshot has the last of these flags, and their length as its number
pub record IsSnapshotOf (published : List Flags) (s : Snapshot) : Type 0 where
  pub last : last_of published ≡ Some s.flags
  pub number : s.number ≡ length published

-- ---- seats

-- a seat: the published flags that it knows, and how often it was read
pub record Seat : Type 0 where
  pub known : List Flags
  pub reads : ℕ

-- it was read once more, and knows no less
pub record IsReadOnce (old new : Seat) : Type 0 where
  pub forward : IsPrefix old.known new.known
  pub once : new.reads ≡ old.reads + 1

-- so it was read, and what it answered, if anything, is the last of what it then knows
abbrev pub WasRead : Seat → Option Numbered → Seat → Type 0
WasRead old (Some s) new = IsReadOnce old new × IsLastOf new.known s
WasRead old None new = IsReadOnce old new
