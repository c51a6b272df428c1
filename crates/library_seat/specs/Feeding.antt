-- A piece of a stream comes to a seat.
use Rattle.std.specs.Prelude.{◌≡◌, ℕ, List, [], ◌++◌, Bool, true, false, Option, Some, None, Result, Ok, Err}
use Rattle.std.specs.List.{last_or}
use Rattle.sync_frames.specs.Snapshots.{Numbered, marked_flags}
use Rattle.sync_frames.specs.Feed.{is_failed}
use Rattle.sync_frames.specs.Frames.{Gains, ShowsFault, ShowsNothing}
use Rattle.sync_frames.specs.declared.fault.FrameFault.{FrameFault}
use Rattle.sync_frames.specs.declared.fault.FrameFault.TheVariants as frame
use Rattle.library_seat.specs.Connection.{Connection, HasGiven}
use Rattle.library_seat.specs.Seat.{Standing, with_connection, with_flags}
use Rattle.library_seat.specs.declared.refusal.Refusal.{Refusal}
use Rattle.library_seat.specs.declared.refusal.Refusal.TheVariants.{WantOfMemory, Frame}

-- all that a call changes which feeds
pub record Heard : Type 0 where
  pub seat : Standing
  pub number : ℕ
  pub came : Bool

-- the newest snapshot, where one came: the seat has its flags, and its number is told
abbrev pub hearing : Option Numbered → Heard → Heard
hearing None h = record h { came = false }
hearing (Some s) h = record { seat = with_flags (marked_flags s) h.seat; number = s.number; came = true }

-- The piece makes the frames of these snapshots whole. Where it makes none whole, the stream shows no fault.
pub record Brings (piece : List ℕ) (snapshots : List Numbered) (old new : Connection) : Type 0 where
  pub gains : (stream : List ℕ) → HasGiven old stream → HasGiven new (stream ++ piece) × Gains stream (stream ++ piece) snapshots
  pub quiet : snapshots ≡ [] → (stream : List ℕ) → HasGiven old stream → ShowsNothing (stream ++ piece)
  pub works : is_failed new.stage ≡ false

-- The stream shows a fault with the piece, which makes no frame whole.
pub record Breaks (piece : List ℕ) (fault : FrameFault) (old new : Connection) : Type 0 where
  pub first : is_failed old.stage ≡ false
  pub failed : is_failed new.stage ≡ true
  pub shown : (stream : List ℕ) → HasGiven old stream → HasGiven new (stream ++ piece) × Gains stream (stream ++ piece) [] × ShowsFault (stream ++ piece) fault

-- no byte comes, where the stream so far shows no fault
pub record IsIdle (piece : List ℕ) (c : Connection) : Type 0 where
  pub none : piece ≡ []
  pub stream : List ℕ
  pub given : HasGiven c stream
  pub quiet : ShowsNothing stream

-- it is told that nothing came, and nothing has changed
abbrev pub HearsNothing : Heard → Heard → Type 0
HearsNothing old new = new ≡ record old { came = false }

-- what a refusal of the piece says: want of memory has not taken it, Failed comes after a fault, and each other one is that of the stream
abbrev pub Refuses : List ℕ → Refusal → Connection → Connection → Type 0
Refuses piece WantOfMemory old new = new ≡ old
Refuses piece (Frame frame.WantOfMemory) old new = ⊥
Refuses piece (Frame frame.Failed) old new = (is_failed old.stage ≡ true) × (new ≡ old)
Refuses piece (Frame fault) old new = Breaks piece fault old new
Refuses piece e old new = ⊥

-- but for what stands over the connection, the seat is as it was
abbrev pub over : Connection → Heard → Heard
over c h = record h { seat = with_connection c h.seat }

-- the newest of the snapshots that the piece makes whole is told, and the seat has its flags
pub record Hears (piece : List ℕ) (old new : Heard) : Type 0 where
  pub snapshots : List Numbered
  pub brings : Brings piece snapshots old.seat.connection new.seat.connection
  pub told : new ≡ hearing (last_or None snapshots) (over new.seat.connection old)

abbrev pub Feeding : List ℕ → Result (Unit {0}) Refusal → Heard → Heard → Type 0
Feeding piece (Ok done) old new = Hears piece old new
Feeding piece (Err e) old new = Refuses piece e old.seat.connection new.seat.connection × (new ≡ over new.seat.connection old)
