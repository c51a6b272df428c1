use Rattle.note_tallies.proofs.Reordered.{in_any_order}
use Rattle.note_tallies.proofs.join_laws.a_tally_is_in_any_order.Goals as goal

pub returns : goal.returns
returns c = in_any_order
