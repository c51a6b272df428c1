-- The scene that a recorder records.
use Rattle.flag_defs.specs.Flags.{flags_view}
use Rattle.note_streams.specs.Record.{Scene}
use Rattle.note_streams.specs.declared.scene.Recorder.{Recorder}

abbrev pub scene_of : Recorder → Scene
scene_of r = record { flags = flags_view r.flags.now; key = r.key.now; moment = r.moment; pages = r.pages.items }
