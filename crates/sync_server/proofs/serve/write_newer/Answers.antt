use Rattle.std.proofs.Common.{ap, arith, subst, take}
use Rattle.std.specs.Arc.{arc_value}
use Rattle.flag_defs.specs.Flags.{flags_view}
use Rattle.flag_defs.specs.Floats.{floats_view}
use Rattle.flag_defs.specs.Spelled.{printed_with_floats}
use Rattle.sync_frames.specs.Snapshots.{snapshot_view}
use Rattle.snap_core.specs.declared.snapshot.Snapshot.{Snapshot}
use Rattle.sync_frames.specs.Framed.{IsFrameOf}
use Rattle.sync_server.proofs.Serving.{begins}
use Rattle.sync_server.proofs.serve.write_newer.Goals as goal

pub returns-clause-wrote : goal.returns-clause-wrote
returns-clause-wrote g c =
    let s = arc_value c.in-Ok.snapshot in
    let bytes = c.frame.result.now in
    let framed = subst (λ (x : Snapshot). IsFrameOf (snapshot_view x) bytes) c.deref-2.ensures c.frame.ensures in
    let b = c.if-write_whole.ensures.exact in (
      snapshot_view s,
      c.in-Ok.ensures.read,
      take b.0 bytes,
      c.in-Ok.ensures.known,
      omega (arith, c.if-number-last.false, c.number-number.ensures, ap (λ (x : Snapshot). x.number) c.deref.ensures),
      begins (snapshot_view s) (printed_with_floats (flags_view s.flags) (floats_view s.flags)) bytes b.0 framed.is_document framed.whole b.1,
      b.2,
    )
