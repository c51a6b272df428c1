use Rattle.std.proofs.Common.{List, ap, subst}
use Rattle.book_lock.specs.Rule.{Sat}
use Rattle.book_lock.specs.Sealed.{IsSealed}
use Rattle.book_lock.specs.declared.call.Sight.{Sight}
use Rattle.book_lock.proofs.Gained.{told}
use Rattle.book_lock.proofs.sealing.seal.Goals as goal

pub returns-clause-told : goal.returns-clause-told
returns-clause-told g c =
    told _ c.args.seats.items c.close.result
    (subst (λ (l : List Sight). IsSealed c.args.book.lock.table.shared.key l c.close.result) (ap (λ (m : Sat). m.0.seats) c.joined-place.ensures.all) c.close.ensures)
