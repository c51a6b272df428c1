use Rattle.note_tallies.proofs.Uniting.{joins_all_hashes}
use Rattle.note_tallies.proofs.filter_laws.joined_tallies_are_of_all_hashes.Goals as goal

pub returns : goal.returns
returns c = joins_all_hashes c.a_join_of_hashes_is_the_tally_of_both.ensures
