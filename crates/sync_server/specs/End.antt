-- The names that the ends of streams are printed with, and the end by a fault.
use Rattle.std.specs.Prelude.{ℕ, List, codes, Bool, true, false, Option, Some, None}
use Rattle.sync_frames.specs.declared.fault.FrameFault.{FrameFault}
use Rattle.sync_frames.specs.declared.fault.FrameFault.TheVariants as fault
use Rattle.sync_server.specs.declared.end.ReadEnd.{ReadEnd}
use Rattle.sync_server.specs.declared.end.ReadEnd.TheVariants.{Ended, EndedInside, Limit, Frame, ReadFault, WantOfMemory}
use Rattle.sync_server.specs.declared.end.StreamEnd.{StreamEnd}
use Rattle.sync_server.specs.declared.end.StreamEnd.TheVariants as stream

abbrev pub name_of : ReadEnd → List ℕ
name_of Ended = codes "Ended"
name_of EndedInside = codes "EndedInside"
name_of Limit = codes "Limit"
name_of (Frame f) = codes "Frame"
name_of ReadFault = codes "ReadFault"
name_of WantOfMemory = codes "WantOfMemory"

abbrev pub of_fault : FrameFault → ReadEnd
of_fault fault.WantOfMemory = WantOfMemory
of_fault f = Frame f

-- the end of a stream whose numbers are closed
abbrev pub is_closed_end : StreamEnd → Bool
is_closed_end stream.Closed = true
is_closed_end end = false

-- the end of a stream whose writer has failed
abbrev pub is_write_fault : StreamEnd → Bool
is_write_fault stream.WriteFault = true
is_write_fault end = false

-- the end of a stream that took all the turns it was allowed
abbrev pub is_limit_end : StreamEnd → Bool
is_limit_end stream.Limit = true
is_limit_end end = false

-- the same of a stream that is read
abbrev pub is_limit_read : ReadEnd → Bool
is_limit_read Limit = true
is_limit_read end = false

abbrev pub is_limit_result : Option ReadEnd → Bool
is_limit_result (Some end) = is_limit_read end
is_limit_result None = false
