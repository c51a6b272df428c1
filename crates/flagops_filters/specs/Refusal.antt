-- The line that a refusal of a filter is written as.
use Rattle.std.specs.Prelude.{ℕ, Bool, true, false, List, [], codes, decimal}
use Rattle.flagops_files.specs.Payload.{number_item, rollout_items}
use Rattle.flagops_files.specs.Refusal as files
use Rattle.flagops_files.specs.Refusal.{line_with}
use Rattle.note_streams.specs.Stop.{record_number, tally_number}
use Rattle.note_streams.specs.declared.stop.RecordStop.{RecordStop}
use Rattle.note_streams.specs.declared.stop.RecordStop.TheVariants as recording
use Rattle.note_streams.specs.declared.stop.TallyStop.{TallyStop}
use Rattle.note_streams.specs.declared.stop.TallyStop.TheVariants as tallying
use Rattle.rollout.specs.Fault as rollouts
use Rattle.rollout.specs.declared.fault.RolloutFault.TheVariants as rollout
use Rattle.note_tallies.specs.declared.joining.JoinFault.{JoinFault}
use Rattle.note_tallies.specs.declared.joining.JoinFault.TheVariants as joining
use Rattle.note_tallies.specs.declared.filter_fault.FilterFault.{FilterFault}
use Rattle.note_tallies.specs.declared.filter_fault.FilterFault.TheVariants as filter
use Rattle.flagops_filters.specs.declared.refusal.FilterRefusal.{FilterRefusal}
use Rattle.flagops_filters.specs.declared.refusal.FilterRefusal.TheVariants.{Load, Flag, Record, Tally, Join}

abbrev pub join_number : JoinFault → ℕ
join_number joining.Page = 1
join_number joining.Order = 2
join_number joining.TooMany = 3

-- memory ran out: each fault but that of `join`, which takes none, has a variant for it
abbrev pub is_want : FilterRefusal → Bool
is_want (Load e) = files.is_want e
is_want (Flag rollout.WantOfMemory) = true
is_want (Record recording.WantOfMemory) = true
is_want (Tally (tallying.Filter filter.WantOfMemory)) = true
is_want e = false

-- a file could not be read; the standard input is none
abbrev pub is_unread : FilterRefusal → Bool
is_unread (Load e) = files.is_unread e
is_unread r = false

-- ---- names, and the number of the line at fault

abbrev pub record_name : RecordStop → List ℕ
record_name recording.WantOfMemory = codes "WantOfMemory"
record_name (recording.Line n) = codes "Line"
record_name recording.Unreadable = codes "Unreadable"
record_name recording.TooLong = codes "TooLong"
record_name recording.Broken = codes "Broken"

abbrev pub record_items : RecordStop → List ℕ
record_items (recording.Line n) = number_item n
record_items e = []

abbrev pub filter_name : FilterFault → List ℕ
filter_name filter.WantOfMemory = codes "WantOfMemory"
filter_name (filter.Line n) = codes "Line"
filter_name (filter.Order n) = codes "Order"
filter_name filter.TooMany = codes "TooMany"
filter_name (filter.Mixed n) = codes "Mixed"

abbrev pub filter_items : FilterFault → List ℕ
filter_items (filter.Line n) = number_item n
filter_items (filter.Order n) = number_item n
filter_items (filter.Mixed n) = number_item n
filter_items e = []

abbrev pub tally_name : TallyStop → List ℕ
tally_name (tallying.Filter fault) = filter_name fault
tally_name tallying.Unreadable = codes "Unreadable"
tally_name tallying.TooLong = codes "TooLong"

abbrev pub tally_items : TallyStop → List ℕ
tally_items (tallying.Filter fault) = filter_items fault
tally_items e = []

abbrev pub join_name : JoinFault → List ℕ
join_name joining.Page = codes "Page"
join_name joining.Order = codes "Order"
join_name joining.TooMany = codes "TooMany"

-- `refused`, the call, the number, the name and what the fault says beyond it
abbrev pub line_of : FilterRefusal → List ℕ
line_of (Load e) = files.line_of e
line_of (Flag e) = line_with (codes "plan") (decimal (rollouts.number_of e)) (rollouts.name_of e) (rollout_items e)
line_of (Record e) = line_with (codes "record") (decimal (record_number e)) (record_name e) (record_items e)
line_of (Tally e) = line_with (codes "tally") (decimal (tally_number e)) (tally_name e) (tally_items e)
line_of (Join e) = line_with (codes "join") (decimal (join_number e)) (join_name e) []
