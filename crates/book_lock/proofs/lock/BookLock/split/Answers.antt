use Rattle.std.proofs.Common.{rules, ap}
use Rattle.book_lock.specs.Rule.{Sat}
use Rattle.book_lock.proofs.Steps.{splits}
use Rattle.book_lock.proofs.lock.BookLock.split.Goals as goal

pub split_seat-requires : goal.split_seat-requires
split_seat-requires c = (c.requires.table, search rules, splits _ _ _ (ap (λ (m : Sat). m.0.holds) c.requires.idle))
