-- When a state of the machine and what the program stores are one: of the published flags it stores the last, with their
-- number, and of the calls the book.
use Rattle.std.specs.Prelude.{◌≡◌, ℕ, List, take}
use Rattle.book_core.specs.Book.{IsBook, input_count}
use Rattle.book_core.specs.Calls.{Shows}
use Rattle.snap_core.specs.Event.{Happening, Reply}
use Rattle.snap_core.specs.World.{State, last_of, news, Step, Run}
use Rattle.snap_core.specs.WorldView.{Stored}

pub record Agrees (s : State) (stored : Stored) : Type 0 where
  pub sources : stored.sources ≡ s.sources
  pub current : stored.hub.current ≡ last_of s.published
  pub members : stored.hub.members ≡ s.members
  pub next : stored.hub.next ≡ s.next
  pub lawful : IsBook stored.book
  pub shown : Shows s.calls stored.book
  pub counted : input_count stored.book ≡ news s.calls
  pub seats : stored.seats ≡ s.seats
  pub is_sealed : stored.is_sealed ≡ s.is_sealed

-- from each state that agrees with what was stored the event gives this answer, and a state that agrees with what is stored
abbrev pub Steps : Stored → Happening → Reply → Stored → Type 0
Steps old event answer new = (s : State) → Agrees s old → (t : State) × Step s event answer t × Agrees t new

-- the same of a run
abbrev pub Runs : Stored → List Happening → List Reply → Stored → Type 0
Runs old events answers new = (s : State) → Agrees s old → (t : State) × Run s events answers t × Agrees t new

-- the first events ran, and no others
abbrev pub RunsFirst : Stored → List Happening → ℕ → Stored → Type 0
RunsFirst old events n new = (answers : List Reply) × Runs old (take n events) answers new
