-- Bytes that are written into a room, whole or not at all.
use Rattle.std.specs.Prelude.{◌≡◌, ℕ, ◌≤◌, ◌<◌, List, ◌++◌, length, drop, Result, Ok, Err}
use Rattle.library_seat.specs.declared.refusal.Refusal.{Refusal}
use Rattle.library_seat.specs.declared.refusal.Refusal.TheVariants.{WantOfMemory, Room as NoRoom}

-- the bytes of a room, and the number beside it, which tells how many of them were written
pub record Room : Type 0 where
  pub bytes : List ℕ
  pub written : ℕ

-- a text stands at the beginning of the room, what lies behind it is as it was, and its length is told
pub record IsPut (text : List ℕ) (old new : Room) : Type 0 where
  pub within : length text ≤ length old.bytes
  pub put : new.bytes ≡ text ++ drop (length text) old.bytes
  pub told : new.written ≡ length text

-- the room is too small for a text: it is as it was, and the length that is wanted is told
pub record IsTooSmall (text : List ℕ) (old new : Room) : Type 0 where
  pub short : length old.bytes < length text
  pub left : new.bytes ≡ old.bytes
  pub told : new.written ≡ length text

-- a text is written, unless the room is too small or memory runs out
abbrev pub Writes : List ℕ → Result (Unit {0}) Refusal → Room → Room → Type 0
Writes text (Ok done) old new = IsPut text old new
Writes text (Err NoRoom) old new = IsTooSmall text old new
Writes text (Err WantOfMemory) old new = new ≡ old
Writes text (Err e) old new = ⊥
