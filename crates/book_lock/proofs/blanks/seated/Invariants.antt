use Rattle.std.specs.Prelude.{◌≡◌, ◌≤◌, ◌++◌, [], false}
use Rattle.book_lock.specs.Seen.{unseen, view_of}
use Rattle.book_lock.proofs.blanks.seated.Given as goal

abbrev pub invariant-loop-left : goal.invariant-loop-left
invariant-loop-left g l = (l.root.table_id ≡ l.initial.root.table_id) × (l.root.me ≡ (view_of false (unseen l.left), [])) × (l.all.items ++ unseen l.left ≡ unseen l.seats) × (l.left ≤ 64)

abbrev pub decreases-loop-left : goal.decreases-loop-left
decreases-loop-left g l = l.left
