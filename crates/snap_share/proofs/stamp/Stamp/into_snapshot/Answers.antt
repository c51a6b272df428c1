use Rattle.std.proofs.Common.{List, subst}
use Rattle.std.specs.Arc.{arc_value}
use Rattle.flag_defs.specs.declared.flags.Flags.{Flags}
use Rattle.snap_share.specs.Known.{IsSnapshotOf}
use Rattle.snap_share.proofs.stamp.Stamp.into_snapshot.Goals as goal

pub returns : goal.returns
returns g c =
    let s = arc_value c.self.inside.snapshot in
    subst (λ (l : List Flags). IsSnapshotOf l s) c.self.view_is c.self.invariant
