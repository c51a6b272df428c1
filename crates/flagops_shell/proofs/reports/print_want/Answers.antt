use Rattle.std.proofs.Common.{◌≡◌}
use Rattle.flagops_shell.proofs.Writes.{refusal_reported}
use Rattle.flagops_shell.proofs.reports.print_want.Goals as goal

pub returns : goal.returns
returns g c = rw (← c.as_bytes.ensures.value) (refusal_reported _ _ _ _ _ _ c.write_three.ensures.whole c.write_three.ensures.part c.write_three.ensures.broken c.number.ensures)
