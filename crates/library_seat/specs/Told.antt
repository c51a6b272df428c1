-- What a call comes to: all that it gives, the length that it wants, or a refusal that leaves everything as it was.
use Rattle.std.specs.Prelude.{◌≡◌, ◌≢◌, ℕ, List, Bool, true, Result, Ok, Err}
use Rattle.std.specs.List.{concat}
use Rattle.flag_text.specs.Shape.{Shape}
use Rattle.flag_defs.specs.Document.{Definitions, DocumentMeans}
use Rattle.flag_defs.specs.Floats.{Marks, are_unmarked}
use Rattle.flag_defs.specs.declared.fault.DefFault.{DefFault}
use Rattle.library_seat.specs.Answer.{answer_text, details_of}
use Rattle.library_seat.specs.Question.{Spelled, context_of}
use Rattle.library_seat.specs.Refusal.{of_document}
use Rattle.library_seat.specs.Room.{Room, IsPut, IsTooSmall}
use Rattle.library_seat.specs.Seat.{Standing, emptied, noted, with_context, with_flags}
use Rattle.library_seat.specs.declared.answer.Details.{Details}
use Rattle.library_seat.specs.declared.refusal.Refusal.{Refusal}
use Rattle.library_seat.specs.declared.refusal.Refusal.TheVariants.{WantOfMemory, Room as NoRoom}

-- ---- documents and contexts

-- the document has flags, none with floats, which are now the seat's
pub record Opens (document : List ℕ) (old new : Standing) : Type 0 where
  pub flags : Definitions
  pub marks : Marks
  pub means : DocumentMeans document (Ok flags)
  pub plain : are_unmarked marks ≡ true
  pub now : new ≡ with_flags (flags, marks) old

-- the document has a fault, and the refusal says which
pub record IsRefused (document : List ℕ) (e : Refusal) : Type 0 where
  pub fault : DefFault
  pub means : DocumentMeans document (Err fault)
  pub says : e ≡ of_document fault

abbrev pub Opening : List ℕ → Result (Unit {0}) Refusal → Standing → Standing → Type 0
Opening document (Ok done) old new = Opens document old new
Opening document (Err e) old new = (new ≡ old) × (e ≢ WantOfMemory → IsRefused document e)

-- the bytes are a context, which is now the seat's
pub record Keeps (bytes : List ℕ) (old new : Standing) : Type 0 where
  pub context : Shape
  pub reads : context_of bytes ≡ Ok context
  pub now : new ≡ with_context context old

abbrev pub Reading : List ℕ → Result (Unit {0}) Refusal → Standing → Standing → Type 0
Reading bytes (Ok done) old new = Keeps bytes old new
Reading bytes (Err e) old new = (new ≡ old) × (e ≢ WantOfMemory → context_of bytes ≡ Err e)

-- ---- resolutions

-- all that a call changes which resolves
pub record Passed : Type 0 where
  pub seat : Standing
  pub room : Room
  pub details : Details

-- the answer is written, its details are told, and what was reached is noted
pub record IsTold (r : Spelled) (key : List ℕ) (old new : Passed) : Type 0 where
  pub put : IsPut (answer_text r) old.room new.room
  pub told : new.details ≡ details_of r
  pub noted_now : new.seat ≡ noted key r.resolved.reached old.seat

-- the room is too small: the length that is wanted is told, and nothing else has changed
pub record HasNoRoom (r : Spelled) (old new : Passed) : Type 0 where
  pub small : IsTooSmall (answer_text r) old.room new.room
  pub details_left : new.details ≡ old.details
  pub seat_left : new.seat ≡ old.seat

-- a resolution is told, unless the room is too small or memory runs out
abbrev pub Gives : Spelled → List ℕ → Result (Unit {0}) Refusal → Passed → Passed → Type 0
Gives r key (Ok done) old new = IsTold r key old new
Gives r key (Err NoRoom) old new = HasNoRoom r old new
Gives r key (Err WantOfMemory) old new = new ≡ old
Gives r key (Err e) old new = ⊥

-- the same where what is asked may be refused
abbrev pub Answers : Result Spelled Refusal → List ℕ → Result (Unit {0}) Refusal → Passed → Passed → Type 0
Answers (Ok r) key result old new = Gives r key result old new
Answers (Err wanted) key (Ok done) old new = ⊥
Answers (Err wanted) key (Err e) old new = (new ≡ old) × (e ≢ WantOfMemory → e ≡ wanted)

-- ---- notes

-- the lines are taken, and it is told whether one was not kept
pub record IsTaken (full : Bool) (old new : Standing) (room room' : Room) : Type 0 where
  pub put : IsPut (concat old.notes.lines) room room'
  pub told : full ≡ old.notes.full
  pub now : new ≡ emptied old

abbrev pub Takes : Result Bool Refusal → Standing → Standing → Room → Room → Type 0
Takes (Ok full) old new room room' = IsTaken full old new room room'
Takes (Err NoRoom) old new room room' = (new ≡ old) × IsTooSmall (concat old.notes.lines) room room'
Takes (Err e) old new room room' = ⊥
