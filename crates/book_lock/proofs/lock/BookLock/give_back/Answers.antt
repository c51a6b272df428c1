use Rattle.std.proofs.Common.{rules, Some, ap, ◌∙◌, ◌∷◌}
use Rattle.atomic_table.specs.Table.{rest}
use Rattle.book_lock.specs.Rule.{Sat}
use Rattle.book_lock.proofs.Steps.{gives_as}
use Rattle.book_lock.proofs.lock.BookLock.give_back.Goals as goal

pub store-requires : goal.store-requires
store-requires c =
    let at = c.exchange.ensures.3 ∙ ap (λ (m : Sat). (m.0, (0, Some c.args.book) ∷ rest m.1)) c.requires.holding in
    (search rules, search rules, gives_as _ _ _ _ _ _ c.args.book c.args.self.now.sized.1 at c.requires.same)
