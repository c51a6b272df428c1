use Rattle.std.specs.Prelude.{◌≡◌, ◌++◌, [], false}
use Rattle.book_lock.specs.Seen.{view_of}
use Rattle.book_lock.proofs.sealing.joined.Given as goal

abbrev pub invariant-loop-seat : goal.invariant-loop-seat
invariant-loop-seat g l = (l.all.table_id ≡ l.initial.all.table_id) × (l.all.me ≡ (view_of false l.all.me.0.seats, [])) × (l.seats.items ++ l.all.me.0.seats ≡ l.fn.seats.items)

abbrev pub decreases-loop-seat : goal.decreases-loop-seat
decreases-loop-seat g l = goal.left-loop-seat g l
