use Rattle.book_core.proofs.Answered.{notes_one_call, shows_its_calls, shows_none}
use Rattle.book_core.proofs.laws.a_book_is_its_calls.Goals as goal

pub returns : goal.returns
returns c = record { opening = shows_none; next = notes_one_call; whole = shows_its_calls }
