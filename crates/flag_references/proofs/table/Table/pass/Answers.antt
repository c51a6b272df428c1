use Rattle.flag_references.proofs.Passes.{IsPassing-step}
use Rattle.flag_references.proofs.table.Table.pass.Goals as goal

pub loop-i-preserved : goal.loop-i-preserved
loop-i-preserved c =
    let e = c.learn-new.ensures in
    IsPassing-step _ _ _ c.loop-i.learned c.learn-new.result c.loop-i.i c.loop-i.invariant e.members e.fewer e.same e.stuck
