use Rattle.book_core.specs.Book.{contents_view}
use Rattle.book_core.proofs.Noting.{book_noted}
use Rattle.book_core.proofs.book.Book.note.Goals as goal

pub invariant_of-self : goal.invariant_of-self
invariant_of-self c =
    let old = contents_view c.self.inside.pages.entries in
    let new = contents_view c.note_in.new.pages.entries in
    book_noted c.note_in.result old new c.args.page.now c.args.input.now c.self.invariant c.note_in.ensures.exact c.note_in.ensures.noted c.note_in.ensures.refused
