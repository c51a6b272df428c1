use Rattle.note_streams.proofs.StreamCounting.{of_lines}
use Rattle.note_streams.proofs.laws.a_stream_is_of_its_lines.Goals as goal

pub returns : goal.returns
returns c = of_lines c.a_stream_is_tallied.ensures
