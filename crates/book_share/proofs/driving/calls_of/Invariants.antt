use Rattle.std.proofs.Common.{◌≡◌, ◌≤◌, ◌*◌, length, take}
use Rattle.book_lock.specs.Told.{all_told}
use Rattle.book_share.proofs.driving.calls_of.Given as goal

abbrev pub invariant-loop-seat : goal.invariant-loop-seat
invariant-loop-seat g l = (l.calls ≤ l.seat-index * 18446744073709551615) × (l.calls ≡ length (all_told (take l.seat-index l.seats)))
