use Rattle.std.proofs.Common.{rules, ap}
use Rattle.book_lock.specs.Rule.{Sat}
use Rattle.book_lock.proofs.Steps.{joins}
use Rattle.book_lock.proofs.lock.BookLock.join.Goals as goal

pub join_seat-requires : goal.join_seat-requires
join_seat-requires c =
    (c.requires.table.0, c.requires.table.1, ap (λ (m : Sat). m.1) c.requires.other, search rules, joins _ _ _ _ _ (ap (λ (m : Sat). m.0.holds) c.requires.idle) (ap (λ (m : Sat). m.0.holds) c.requires.other))
