use Rattle.note_tallies.proofs.Tallying.{tally_of_notes}
use Rattle.note_tallies.proofs.laws.a_tally_is_of_its_lines.Goals as goal

pub returns : goal.returns
returns c = tally_of_notes
