use Rattle.std.proofs.Common.{None, Some, refl}
use Rattle.flagops_streams.proofs.serving.tell_next.Goals as goal

pub returns-in-Some-clause-end : goal.returns-in-Some-clause-end
returns-in-Some-clause-end g c = (Some c.in-Some.gone, c.missed_by.ensures, (c.saturating_add.result, c.say_gone.ensures.line))

pub returns-in-None-clause-end : goal.returns-in-None-clause-end
returns-in-None-clause-end g c = (None, c.missed_by-in-None.ensures, refl)
