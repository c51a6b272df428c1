use Rattle.flagops_shell.proofs.Writes.{part_front, part_after}
use Rattle.flagops_shell.proofs.reports.write_three.Goals as goal

pub returns-then-not-write_whole-2-clause-part : goal.returns-then-not-write_whole-2-clause-part
returns-then-not-write_whole-2-clause-part g c =
    part_after _ _ _ _ _ c.if-not-write_whole.ensures.whole (part_front _ _ _ _ c.if-not-write_whole-2.ensures.part)

pub returns-clause-part : goal.returns-clause-part
returns-clause-part g c =
    part_after _ _ _ _ _ c.if-not-write_whole.ensures.whole (part_after _ _ _ _ _ c.if-not-write_whole-2.ensures.whole c.write_whole-3.ensures.part)
