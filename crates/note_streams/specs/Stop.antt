-- The numbers that refusals are printed with, and what becomes of a batch that is not filled.
use Rattle.std.specs.Prelude.{ℕ, Bool, true, false, Result, Ok, Err}
use Rattle.byte_streams.specs.declared.filling.FillFault.{FillFault}
use Rattle.byte_streams.specs.declared.filling.FillFault.TheVariants as fill
use Rattle.note_tallies.specs.FilterFault as filters
use Rattle.note_tallies.specs.declared.filter_fault.FilterFault.TheVariants as filter
use Rattle.note_streams.specs.declared.stop.RecordStop.{RecordStop}
use Rattle.note_streams.specs.declared.stop.RecordStop.TheVariants.{WantOfMemory, Line, Unreadable, TooLong, Broken}
use Rattle.note_streams.specs.declared.stop.TallyStop.{TallyStop}
use Rattle.note_streams.specs.declared.stop.TallyStop.TheVariants as tally

abbrev pub record_number : RecordStop → ℕ
record_number WantOfMemory = 0
record_number (Line n) = 1
record_number Unreadable = 2
record_number TooLong = 3
record_number Broken = 4

abbrev pub tally_number : TallyStop → ℕ
tally_number (tally.Filter fault) = filters.number_of fault
tally_number tally.Unreadable = 4
tally_number tally.TooLong = 5

abbrev pub of_fill : FillFault → RecordStop
of_fill fill.WantOfMemory = WantOfMemory
of_fill fill.Read = Unreadable

abbrev pub tallied_fill : FillFault → TallyStop
tallied_fill fill.WantOfMemory = tally.Filter filter.WantOfMemory
tallied_fill fill.Read = tally.Unreadable

-- the output has failed
abbrev pub is_output_fault : {X : Type 0} → Result X RecordStop → Bool
is_output_fault (Ok x) = false
is_output_fault (Err WantOfMemory) = false
is_output_fault (Err (Line n)) = false
is_output_fault (Err Unreadable) = false
is_output_fault (Err TooLong) = false
is_output_fault (Err Broken) = true
