use Rattle.note_tallies.proofs.Filtering.{stream}
use Rattle.note_tallies.proofs.filter_laws.a_stream_is_tallied.Goals as goal

pub returns : goal.returns
returns c = stream c.a_tally_is_of_its_lines.ensures c.a_tally_is_of_its_hashes.ensures c.tallied_lines_are_of_one_kind.ensures
