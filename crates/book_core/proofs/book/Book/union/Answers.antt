use Rattle.std.proofs.Common.{Ok, ap, subst}
use Rattle.book_core.specs.Book.{IsBook}
use Rattle.book_core.specs.Union.{with_pages}
use Rattle.book_core.proofs.United.{along, united}
use Rattle.book_core.proofs.book.Book.union.Goals as goal

pub returns : goal.returns
returns c =
    united c.with_pages.result c.args.self c.args.other.now (subst IsBook c.self.view_is c.self.invariant) c.pages.ensures.lawful
    (along c.with_pages.result _ _ (ap (with_pages (Ok c.args.self)) c.pages.ensures.contents) c.with_pages.ensures)
