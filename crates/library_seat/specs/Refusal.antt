-- The number of a refusal, and whose refusal a fault is.
use Rattle.std.specs.Prelude.{ℕ, ◌+◌}
use Rattle.flag_text.specs.Fault.{number_of as text_number}
use Rattle.flag_text.specs.declared.fault.TextFault.{TextFault}
use Rattle.flag_text.specs.declared.fault.TextFault.TheVariants as text_fault
use Rattle.flag_defs.specs.Fault.{number_of as document_number}
use Rattle.flag_defs.specs.declared.fault.DefFault.{DefFault}
use Rattle.flag_defs.specs.declared.fault.DefFault.TheVariants as document_fault
use Rattle.sync_frames.specs.Fault.{number_of as frame_number}
use Rattle.sync_frames.specs.declared.fault.FrameFault.{FrameFault}
use Rattle.sync_frames.specs.declared.fault.FrameFault.TheVariants as frame_fault
use Rattle.library_seat.specs.declared.refusal.Refusal.{Refusal}
use Rattle.library_seat.specs.declared.refusal.Refusal.TheVariants.{WantOfMemory, Empty, Room, Key, Kind, Moment, NoContext, Document, Default, Context, Frame}

-- 0 is no refusal, and 7 says that a note line was not kept
abbrev pub number_of : Refusal → ℕ
number_of WantOfMemory = 1
number_of Empty = 2
number_of Room = 3
number_of Key = 4
number_of Kind = 5
number_of Moment = 6
number_of NoContext = 8
number_of (Document e) = 10 + document_number e
number_of (Default e) = 20 + text_number e
number_of (Context e) = 30 + text_number e
number_of (Frame e) = 40 + frame_number e

-- want of memory has one number, wherever it comes from
abbrev pub of_document : DefFault → Refusal
of_document document_fault.WantOfMemory = WantOfMemory
of_document e = Document e

abbrev pub of_default : TextFault → Refusal
of_default text_fault.WantOfMemory = WantOfMemory
of_default e = Default e

abbrev pub of_context : TextFault → Refusal
of_context text_fault.WantOfMemory = WantOfMemory
of_context e = Context e

abbrev pub of_frame : FrameFault → Refusal
of_frame frame_fault.WantOfMemory = WantOfMemory
of_frame e = Frame e
