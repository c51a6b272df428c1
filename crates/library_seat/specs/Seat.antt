-- A seat: what one thread of an application resolves with.
use Rattle.std.specs.Prelude.{ℕ, List, nat_eq, if◌then◌else◌, Option, Some, None, option_map}
use Rattle.flag_text.specs.Shape.{Shape}
use Rattle.logic_eval.specs.Run.{Reach}
use Rattle.flag_defs.specs.Document.{Definitions}
use Rattle.flag_resolve.specs.Floats.{Marked}
use Rattle.library_seat.specs.Kept.{Kept, nothing, with_lines}
use Rattle.library_seat.specs.Connection.{Connection, begun}
use Rattle.library_seat.specs.Lines.{lines_of}

-- its flags, where it has some, and which of them have floats; the context that was read last; the note lines that nobody has taken; and its connection
pub record Standing : Type 0 where
  pub flags : Option Marked
  pub context : Option Shape
  pub notes : Kept
  pub connection : Connection

-- a seat without flags, which keeps no note lines, and to which no piece of a stream came
abbrev pub fresh : Standing
fresh = record { flags = None; context = None; notes = nothing 0; connection = begun }

-- the flags, whatever floats they have
abbrev pub definitions_in : Option Marked → Option Definitions
definitions_in flags = option_map (λ f. f.0) flags

-- with these flags, and all else as it was
abbrev pub with_flags : Marked → Standing → Standing
with_flags flags s = record s { flags = Some flags }

-- with the flags of another, which may have none
abbrev pub sharing : Standing → Standing → Standing
sharing other s = record s { flags = other.flags }

abbrev pub with_context : Shape → Standing → Standing
with_context context s = record s { context = Some context }

-- with this over its connection
abbrev pub with_connection : Connection → Standing → Standing
with_connection c s = record s { connection = c }

-- the most bytes of note lines, of which those that are kept stay
abbrev pub with_most : ℕ → Standing → Standing
with_most most s = record s { notes = record (s.notes) { most = most } }

-- what was reached is noted, where note lines are kept at all
unfoldable pub noted : List ℕ → List Reach → Standing → Standing
noted key reached s = if nat_eq s.notes.most 0 then s else record s { notes = with_lines s.notes (lines_of (definitions_in s.flags) key reached) }

-- the note lines are taken
abbrev pub emptied : Standing → Standing
emptied s = record s { notes = nothing s.notes.most }
