use Rattle.note_tallies.proofs.Uniting.{joins_all}
use Rattle.note_tallies.proofs.filter_laws.joined_tallies_are_of_all.Goals as goal

pub returns : goal.returns
returns c = joins_all c.a_join_is_the_tally_of_both.ensures
