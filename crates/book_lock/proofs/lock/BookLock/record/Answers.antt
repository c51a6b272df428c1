use Rattle.std.proofs.Common.{rules, Some, [], ap, sym, subst, ◌∙◌, ◌∷◌, ◌++◌}
use Rattle.book_core.specs.Calls.{Call, book_of_calls}
use Rattle.book_lock.specs.Seen.{IsLegal, seen_in}
use Rattle.atomic_table.specs.Table.{rest}
use Rattle.book_lock.specs.Rule.{Sat}
use Rattle.book_lock.proofs.Steps.{records_as}
use Rattle.book_lock.proofs.lock.BookLock.record.Goals as goal

pub store-requires : goal.store-requires
store-requires g c =
    let at = c.exchange.ensures.3 ∙ ap (λ (m : Sat). (m.0, (0, Some c.args.book) ∷ rest m.1)) c.requires.holding in
    let call = c.requires.call in (
      search rules,
      search rules,
      records_as _ _ _ _ _ (seen_in c.args.place.now.me.0.seats) _ c.args.book c.args.self.now.sized.1 at (ap (λ (k : Call). k.seat) call)
          (subst (λ (k : Call). IsLegal (seen_in c.args.place.now.me.0.seats ++ k ∷ [])) (sym call) c.requires.legal)
          (c.requires.more ∙ ap (λ (k : Call). book_of_calls [] (seen_in c.args.place.now.me.0.seats ++ k ∷ [])) (sym call)),
    )
