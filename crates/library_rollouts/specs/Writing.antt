-- What a call comes to that writes the text which its bytes stand for.
use Rattle.std.specs.Prelude.{◌≡◌, ◌≢◌, ℕ, List, Result, Ok, Err}
use Rattle.library_seat.specs.Room.{Room, IsPut, IsTooSmall}
use Rattle.library_rollouts.specs.declared.refusal.RolloutRefusal.{RolloutRefusal}
use Rattle.library_rollouts.specs.declared.refusal.RolloutRefusal.TheVariants.{WantOfMemory, Room as NoRoom}

-- which texts, and what is told beside them, or which refusals the bytes of a call stand for
abbrev pub Meaning : Type 0 → Type 1
Meaning A = Result (List ℕ × A) RolloutRefusal → Type 0

module _ {A : Type 0} where
  -- The text is written, unless the room is too small, which then is as it was, or memory runs out. After a refusal nothing has changed.
  abbrev pub Writes : Meaning A → Result A RolloutRefusal → Room → Room → Type 0
  Writes Is (Ok a) old new = (text : List ℕ) × Is (Ok (text, a)) × IsPut text old new
  Writes Is (Err NoRoom) old new = (text : List ℕ) × (a : A) × Is (Ok (text, a)) × IsTooSmall text old new
  Writes Is (Err WantOfMemory) old new = new ≡ old
  Writes Is (Err e) old new = Is (Err e) × (new ≡ old)

-- What is made of the bytes, seen by `seen`, before it is written: what they stand for, unless memory ran out. It is refused for no want of room.
abbrev pub Makes : {A B : Type 0} → (A → B) → (Result B RolloutRefusal → Type 0) → Result A RolloutRefusal → Type 0
Makes seen Is (Ok a) = Is (Ok (seen a))
Makes seen Is (Err e) = (e ≢ NoRoom) × (e ≢ WantOfMemory → Is (Err e))

-- the text is written, or the room is too small
abbrev pub Puts : List ℕ → Result (Unit {0}) RolloutRefusal → Room → Room → Type 0
Puts text (Ok done) old new = IsPut text old new
Puts text (Err e) old new = (e ≡ NoRoom) × IsTooSmall text old new
