use Rattle.note_streams.proofs.CountedStreams.{counted}
use Rattle.note_streams.proofs.outcomes.counted_both.Goals as goal

pub returns : goal.returns
returns c = counted c.args.one c.args.other c.saturating_add.result c.saturating_add.ensures
