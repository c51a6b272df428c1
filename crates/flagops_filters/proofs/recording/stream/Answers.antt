use Rattle.std.proofs.Common.{IfSome, refl, subst}
use Rattle.flagops_shell.specs.Console.{Shown}
use Rattle.note_streams.specs.Recorded.{recorded_of}
use Rattle.note_streams.specs.Scene.{scene_of}
use Rattle.flagops_filters.specs.Record.{RecordEnds}
use Rattle.flagops_filters.proofs.Recorded.{all_recorded, gave_up}
use Rattle.flagops_filters.proofs.recording.stream.Goals as goal

pub returns-in-Ok : goal.returns-in-Ok
returns-in-Ok g c =
    let s = scene_of c.args.recorder.now in
    let is_cut = g.I.Inlet.is_broken c.record_stream.new.input in
    let given = g.I.Inlet.bytes c.args.input.now in
    let inside = c.console.inside in
    let old : Shown = record { printed = g.O.Outlet.bytes inside.out; is_broken = g.O.Outlet.is_broken inside.out; reported = g.E.Outlet.bytes inside.err; is_mute = g.E.Outlet.is_broken inside.err } in
    let out = c.record_stream.new.out in
    let err = c.tell_counted.new.err in
    let new : Shown = record { printed = g.O.Outlet.bytes out; is_broken = g.O.Outlet.is_broken out; reported = g.E.Outlet.bytes err; is_mute = g.E.Outlet.is_broken err } in
    subst (λ (o : Shown). IfSome given (λ bytes. RecordEnds o new 0 (recorded_of s bytes) c.args.start bytes is_cut)) c.console.view_is
    (all_recorded old new 0 s c.args.start is_cut given c.in-Ok.counted c.in-Ok.ensures.exact c.in-Ok.ensures.told c.in-Ok.ensures.broken refl c.tell_counted.ensures)

pub returns-in-Err : goal.returns-in-Err
returns-in-Err g c =
    let s = scene_of c.args.recorder.now in
    let is_cut = g.I.Inlet.is_broken c.record_stream.new.input in
    let given = g.I.Inlet.bytes c.args.input.now in
    let inside = c.console.inside in
    let old : Shown = record { printed = g.O.Outlet.bytes inside.out; is_broken = g.O.Outlet.is_broken inside.out; reported = g.E.Outlet.bytes inside.err; is_mute = g.E.Outlet.is_broken inside.err } in
    let out = c.record_stream.new.out in
    subst (λ (o : Shown). IfSome given (λ bytes. RecordEnds o c.give_up.new.console c.give_up.result (recorded_of s bytes) c.args.start bytes is_cut)) c.console.view_is
    (gave_up old c.give_up.new.console c.give_up.result s c.args.start is_cut (g.O.Outlet.bytes out) given c.in-Err.stop (g.O.Outlet.is_broken out) c.in-Err.ensures.exact c.give_up.ensures)
