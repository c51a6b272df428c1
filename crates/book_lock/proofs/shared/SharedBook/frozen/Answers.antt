use Rattle.book_lock.proofs.Frozen.{holds}
use Rattle.book_lock.proofs.shared.SharedBook.frozen.Goals as goal

pub returns-clause-holds : goal.returns-clause-holds
returns-clause-holds g c = holds c.exposure.result _ _ _ c.exposure.ensures.looks c.exposure.ensures.inputs
