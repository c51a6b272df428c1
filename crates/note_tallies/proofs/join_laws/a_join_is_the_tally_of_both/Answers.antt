use Rattle.note_tallies.proofs.Union.{union}
use Rattle.note_tallies.proofs.join_laws.a_join_is_the_tally_of_both.Goals as goal

pub returns : goal.returns
returns c = union
