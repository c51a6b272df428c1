-- What a shared book begins and ends with.
use Rattle.std.specs.Prelude.{◌≡◌, ◌≤◌, ℕ, List, []}
use Rattle.atomic_table.specs.Seated.{TableId}
use Rattle.book_core.specs.Book.{Contents}
use Rattle.book_core.specs.Calls.{Call, book_of_calls}
use Rattle.book_lock.specs.Seen.{calls_by, AllKnow, IsLegal, times, once_below}
use Rattle.book_lock.specs.declared.call.Sight.{Sight}

-- what contracts see of blanks: the table, and the number of seats
pub record Blanked : Type 0 where
  pub table : TableId
  pub seats : ℕ

-- There is one legal list of accepted calls, which leaves the book. It begins with what each seat has seen, has of each seat
-- the calls that this seat made and no other, and these seats are all that the book had.
pub record IsSealed (n : ℕ) (seats : List Sight) (book : Contents) : Type 0 where
  pub all : List Call
  pub legal : IsLegal all
  pub left : book ≡ book_of_calls [] all
  pub seen : AllKnow all seats
  pub callers : (k : ℕ) → n ≤ k → calls_by k all ≡ []
  pub numbers : (k : ℕ) → times k seats ≡ once_below k n
