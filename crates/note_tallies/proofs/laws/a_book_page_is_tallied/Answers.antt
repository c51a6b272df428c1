use Rattle.note_tallies.proofs.Sorted.{book_pages}
use Rattle.note_tallies.proofs.laws.a_book_page_is_tallied.Goals as goal

pub returns : goal.returns
returns c = book_pages c.a_tally_is_in_any_order.ensures
