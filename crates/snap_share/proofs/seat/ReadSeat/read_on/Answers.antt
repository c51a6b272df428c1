use Rattle.std.proofs.Common.{List, sym, subst, ◌∙◌}
use Rattle.std.specs.Arc.{arc_value}
use Rattle.flag_defs.specs.declared.flags.Flags.{Flags}
use Rattle.snap_share.specs.Known.{IsSnapshotOf}
use Rattle.snap_share.proofs.seat.ReadSeat.read_on.Goals as goal

pub returns-clause-last : goal.returns-clause-last
returns-clause-last g c = subst (λ (l : List Flags). IsSnapshotOf l (arc_value c.into_snapshot.result)) (sym (c.again.ensures ∙ c.front-2.ensures)) c.into_snapshot.ensures
