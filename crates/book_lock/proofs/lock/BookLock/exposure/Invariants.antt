use Rattle.std.specs.Prelude.{◌≡◌}
use Rattle.book_lock.proofs.lock.BookLock.exposure.Given as goal

abbrev pub invariant-loop : goal.invariant-loop
invariant-loop g l = (l.place.table_id ≡ l.initial.place.table_id) × (l.place.me ≡ l.initial.place.me)
