use Rattle.std.proofs.Common.{rules, Some, [], ap, sym, ◌∙◌, ◌∷◌}
use Rattle.atomic_table.specs.Table.{rest}
use Rattle.book_core.specs.Calls.{book_of_calls}
use Rattle.book_lock.specs.Rule.{Sat}
use Rattle.book_lock.proofs.Steps.{takes_as}
use Rattle.book_lock.proofs.lock.BookLock.try_take.Goals as goal

pub compare_exchange-requires : goal.compare_exchange-requires
compare_exchange-requires c = (c.requires.table, search rules, takes_as _ _ _ _ _ _ _ (search rules) c.requires.idle)

pub exchange-requires : goal.exchange-requires
exchange-requires c =
    let t = c.compare_exchange.ensures.2.0 (search rules) in
    let book = book_of_calls [] t.0 in
    let held = ap (λ (m : Sat). m.1) t.1 ∙ ap (λ (m : Sat). (0, Some book) ∷ m.1) c.requires.idle in
    (search rules, (Some book, held ∙ ap (λ l. (0, Some book) ∷ rest l) (sym held)))
