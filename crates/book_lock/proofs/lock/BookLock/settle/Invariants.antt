use Rattle.book_lock.specs.Notes.{accepted}
use Rattle.book_lock.proofs.lock.BookLock.settle.Given as goal

abbrev pub ghosts-record : goal.ghosts-record
ghosts-record a = record { call = accepted a.number a.page.now a.input.now a.noted }
