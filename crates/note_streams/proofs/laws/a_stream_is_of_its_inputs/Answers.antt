use Rattle.note_streams.proofs.StreamCounting.{of_inputs}
use Rattle.note_streams.proofs.laws.a_stream_is_of_its_inputs.Goals as goal

pub returns : goal.returns
returns c = of_inputs c.a_stream_is_tallied.ensures c.a_tally_is_in_any_order.ensures c.hashes_stand_for_inputs.ensures
