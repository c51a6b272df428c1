use Rattle.std.proofs.Common.{rules}
use Rattle.book_lock.proofs.Ends.{opens}
use Rattle.book_lock.proofs.blanks.Blanks.new.Goals as goal

pub new-requires-2 : goal.new-requires-2
new-requires-2 c = opens _ _ (search rules)
