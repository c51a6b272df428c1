-- The flags of a document and what is found by its names, together.
use Rattle.std.specs.Prelude.{Result, Ok, Err}
use Rattle.flag_defs.specs.declared.fault.DefFault.{DefFault}
use Rattle.flag_defs.specs.declared.flags.Flags.{Flags}
use Rattle.flag_doubts.specs.declared.reading.ReadDocument.{ReadDocument}

-- its flags alone
abbrev pub flags_of : Result ReadDocument DefFault → Result Flags DefFault
flags_of (Ok d) = Ok d.flags
flags_of (Err e) = Err e
