use Rattle.std.proofs.Common.{IsSome, [], unwrap_or, refl, ap, sym, subst, ◌∙◌}
use Rattle.book_lock.specs.Rule.{Sat}
use Rattle.book_lock.specs.Sealed.{IsSealed}
use Rattle.book_lock.proofs.Ends.{closes}
use Rattle.book_lock.proofs.lock.BookLock.close.Goals as goal

pub unwrap-requires : goal.unwrap-requires
unwrap-requires c =
    let t = closes _ _ _ _ _ c.args.place.me.0.seats c.close_with-closed.ensures.values.2 (ap (λ (m : Sat). m.0) c.requires.idle) c.requires.all c.take-slot.result c.take-slot.ensures.value in
    subst IsSome (sym t.1) refl

pub returns : goal.returns
returns c =
    let t = closes _ _ _ _ _ c.args.place.me.0.seats c.close_with-closed.ensures.values.2 (ap (λ (m : Sat). m.0) c.requires.idle) c.requires.all c.take-slot.result c.take-slot.ensures.value in
    subst (IsSealed c.args.self.table.shared.key c.args.place.me.0.seats) (ap (λ o. unwrap_or o []) (sym t.1 ∙ c.unwrap.ensures)) t.2
