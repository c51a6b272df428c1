use Rattle.flag_defs.specs.Floats.{floats_view}
use Rattle.source_merge.proofs.sources.Sources.set.Goals as goal

pub returns-clause-floats : goal.returns-clause-floats
returns-clause-floats c = (floats_view c.in_ok-flags.flags, c.in_ok-flags.ensures.floats, c.put.ensures.floats)
