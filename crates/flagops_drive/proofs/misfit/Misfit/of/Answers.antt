use Rattle.std.proofs.Common.{arith}
use Rattle.flagops_drive.proofs.Misfits.{misfit-list}
use Rattle.flagops_drive.proofs.misfit.Misfit.of.Goals as goal

pub returns-in-List : goal.returns-in-List
returns-in-List c =
    misfit-list c.args.tree.now c.in-List.items c.as_slice.result.now c.len.result c.first_misfit.result c.unless_few.result c.or.result
    c.in-List.is c.as_slice.ensures.value (omega (arith, c.len.ensures)) c.first_misfit.ensures c.unless_few.ensures c.or.ensures
