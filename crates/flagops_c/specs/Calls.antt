-- What an export answers: the number of what the library call of its name answers, of the seat that the handle holds.
use Rattle.std.specs.Prelude.{◌≡◌, ℕ, Bool, if◌then◌else◌, Option, Some, None, option_map, Result, Ok, Err}
use Rattle.library_seat.specs.Refusal.{number_of}
use Rattle.library_seat.specs.Seat.{Standing, fresh}
use Rattle.library_seat.specs.View.{seat_view}
use Rattle.library_seat.specs.declared.refusal.Refusal.{Refusal}
use Rattle.library_seat.specs.declared.seat.Seat.{Seat}

-- 0, or the number of the refusal
abbrev pub result_number : Result (Unit {0}) Refusal → ℕ
result_number (Ok done) = 0
result_number (Err e) = number_of e

-- the same of note lines that were taken: 7 where one was not kept
abbrev pub taken_number : Result Bool Refusal → ℕ
taken_number (Ok full) = if full then 7 else 0
taken_number (Err e) = number_of e

-- how the seat stands that a handle holds
abbrev pub standing : Option Seat → Option Standing
standing seat = option_map seat_view seat

-- Where there is no seat, that is the refusal. Where there is one, the call comes to what `call` says of its answer and of the seat before and after it.
module _ {A : Type 0} (number : A → ℕ) (call : A → Standing → Standing → Type 0) where
  abbrev pub Calls : ℕ → Option Standing → Option Standing → Type 0
  Calls n None new = (n ≡ 2) × (new ≡ None)
  Calls n (Some old) None = ⊥
  Calls n (Some old) (Some new) = (answer : A) × (n ≡ number answer) × call answer old new

-- a seat that C has not made is one without flags
abbrev pub or_fresh : Option Standing → Standing
or_fresh None = fresh
or_fresh (Some s) = s
