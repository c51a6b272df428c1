use Rattle.std.proofs.Common.{◌∙◌, IfSome, ap, option_map, subst, ℕ}
use Rattle.flag_defs.specs.Flags.{flags_view}
use Rattle.note_streams.specs.Recorded.{recorded_of}
use Rattle.note_streams.specs.Record.{IsSceneOf}
use Rattle.note_streams.specs.Scene.{scene_of}
use Rattle.flagops_filters.specs.Record.{RecordEnds}
use Rattle.flagops_filters.specs.Start.{moment_of}
use Rattle.flagops_filters.specs.declared.start.Start.{Start}
use Rattle.flagops_filters.proofs.Recorded.{over_scene, unrecorded}
use Rattle.flagops_filters.proofs.recording.over.Goals as goal

pub returns-in-Ok : goal.returns-in-Ok
returns-in-Ok g c =
    let flags = flags_view c.args.flags.now in
    let key = c.args.asked.now.key.now in
    let asked = option_map (λ m. m.number) c.args.asked.now.moment in
    let is_cut = g.I.Inlet.is_broken c.stream.new.input in
    let given = g.I.Inlet.bytes c.args.input.now in
    let s = scene_of c.in-Ok.recorder in
    let moment = c.moment.ensures.value ∙ ap (moment_of asked) c.of-start.ensures.value in
    over_scene c.args.console.now c.stream.new.console c.stream.result c.args.asked.now.document.now flags key asked c.args.now is_cut s given
    (subst (λ (m : ℕ). IsSceneOf flags key m s) moment c.in-Ok.ensures.scene)
    (subst (λ (t : Start). IfSome given (λ bytes. RecordEnds c.args.console.now c.stream.new.console c.stream.result (recorded_of s bytes) t bytes is_cut)) c.of-start.ensures.value c.stream.ensures)

pub returns-in-Err : goal.returns-in-Err
returns-in-Err g c =
    unrecorded c.args.console.now c.refuse.new.console c.refuse.result c.args.asked.now.document.now (flags_view c.args.flags.now) c.args.asked.now.key.now (option_map (λ m. m.number) c.args.asked.now.moment) c.args.now
    (g.I.Inlet.is_broken c.args.input.now) (g.I.Inlet.bytes c.args.input.now) c.in-Err.fault c.unrecorded.result c.in-Err.ensures.refused c.unrecorded.ensures.refusal c.unrecorded.ensures.names c.refuse.ensures
