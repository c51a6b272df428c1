-- Why nothing is recorded of the flag of a key.
use Rattle.std.specs.Prelude.{Option, Some, None, if◌then◌else◌}
use Rattle.flag_defs.specs.Definition.{Definition}
use Rattle.flag_defs.specs.Flag.{is_broken}
use Rattle.note_streams.specs.declared.recorder.RecordFault.{RecordFault}
use Rattle.note_streams.specs.declared.recorder.RecordFault.TheVariants.{UnknownFlag, Broken}

-- there is none, or it is broken
abbrev pub refusal_for : Option Definition → Option RecordFault
refusal_for None = Some UnknownFlag
refusal_for (Some flag) = if is_broken flag then Some Broken else None
