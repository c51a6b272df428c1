use Rattle.flagops_streams.proofs.Told.{said}
use Rattle.flagops_streams.proofs.remark.say.Goals as goal

pub returns-clause-says : goal.returns-clause-says
returns-clause-says g c = rw (← c.as_bytes.ensures.value) (said _ _ _ _ _ _ c.write_whole.ensures.whole c.write_whole.ensures.part c.write_whole.ensures.broken)
