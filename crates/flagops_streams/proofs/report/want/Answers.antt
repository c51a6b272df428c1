use Rattle.flagops_streams.specs.Refusal.{want_line}
use Rattle.flagops_streams.proofs.Writes.{either}
use Rattle.flagops_streams.proofs.report.want.Goals as goal

pub returns : goal.returns
unfolding want_line
returns g c = rw (← c.as_bytes.ensures.value) (either _ _ _ _ _ c.write_three.ensures.whole c.write_three.ensures.part c.write_three.ensures.broken)
