-- What a call of a seat makes of what it has seen.
use Rattle.std.specs.Prelude.{◌≡◌, ◌≢◌, ℕ, List, [], ◌∷◌, ◌++◌, Result, Ok, Err}
use Rattle.book_core.specs.Page.{PageName}
use Rattle.book_core.specs.Calls.{Call, reply_after}
use Rattle.book_core.specs.declared.fault.BookFault.{BookFault}
use Rattle.book_core.specs.declared.fault.BookFault.TheVariants.{WantOfMemory}
use Rattle.book_core.specs.declared.noted.Noted.{Noted}
use Rattle.book_core.specs.declared.noted.Noted.TheVariants.{New}
use Rattle.book_lock.specs.Counts.{own}
use Rattle.book_lock.specs.Seen.{StartsWith, IsLegal}
use Rattle.book_lock.specs.declared.call.Sight.{Sight}

-- an accepted call of the seat of this number
abbrev pub accepted : ℕ → PageName → List ℕ → Noted → Call
accepted number page input noted = record { seat = number; page = page; input = input; reply = Ok noted }

-- the seat has seen more of the legal list, and made no call
pub record Looks (old new : Sight) : Type 0 where
  pub number : new.number ≡ old.number
  pub grown : StartsWith new.seen old.seen
  pub legal : IsLegal new.seen
  pub mine : own new ≡ own old

-- the seat has seen more of the legal list, which ends in its own call; and it made that call alone
pub record Adds (c : Call) (old new : Sight) : Type 0 where
  pub number : new.number ≡ old.number
  pub grown : (between : List Call) × (new.seen ≡ (old.seen ++ between) ++ c ∷ [])
  pub legal : IsLegal new.seen
  pub mine : own new ≡ own old ++ c ∷ []

-- The answer to an input on a page is the one that comes after all calls that the seat has then seen, but for want of memory, which comes
-- in place of New alone; where it is accepted, that call is the last which the seat has seen.
abbrev pub Answers : ℕ → PageName → List ℕ → Result Noted BookFault → Sight → Sight → Type 0
Answers number page input (Ok noted) old new = Adds (accepted number page input noted) old new
Answers number page input (Err e) old new =
    Looks old new × (e ≢ WantOfMemory → reply_after new.seen page input ≡ Err e) × (e ≡ WantOfMemory → reply_after new.seen page input ≡ Ok New)
