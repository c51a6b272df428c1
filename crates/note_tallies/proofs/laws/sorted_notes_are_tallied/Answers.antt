use Rattle.note_tallies.proofs.Sorted.{sorted_notes}
use Rattle.note_tallies.proofs.laws.sorted_notes_are_tallied.Goals as goal

pub returns : goal.returns
returns c = sorted_notes c.a_tally_is_in_any_order.ensures
