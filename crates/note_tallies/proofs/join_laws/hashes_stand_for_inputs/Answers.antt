use Rattle.note_tallies.proofs.Hashes.{stand_for_inputs}
use Rattle.note_tallies.proofs.join_laws.hashes_stand_for_inputs.Goals as goal

pub returns : goal.returns
returns c = stand_for_inputs
