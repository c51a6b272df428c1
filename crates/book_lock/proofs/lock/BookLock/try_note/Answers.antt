use Rattle.book_lock.proofs.Notes.{may_settle, answers}
use Rattle.book_lock.proofs.lock.BookLock.try_note.Goals as goal

pub settle-requires-clause-accepted : goal.settle-requires-clause-accepted
settle-requires-clause-accepted c =
    let t = c.in_ok-book.ensures.some.1 in
    may_settle c.note-reply.result _ _ _ _ _ _ t.1 t.0 c.note-reply.ensures.exact c.note-reply.ensures.noted

pub returns-clause-answer : goal.returns-clause-answer
returns-clause-answer c =
    let t = c.in_ok-book.ensures.some.1 in
    answers c.note-reply.result _ _ _ _ _ _ _ _ t.1 t.2 t.0 c.note-reply.ensures.exact c.note-reply.ensures.no_memory c.settle.ensures.accepted c.note-reply.ensures.noted c.settle.ensures.refused
