use Rattle.note_tallies.proofs.Union.{union_of_hashes}
use Rattle.note_tallies.proofs.join_laws.a_join_of_hashes_is_the_tally_of_both.Goals as goal

pub returns : goal.returns
returns c = union_of_hashes
