use Rattle.std.proofs.Common.{◌≡◌, length}
use Rattle.flag_text.specs.Readers.{find_member}
use Rattle.flag_text.specs.View.{members_view}
use Rattle.flag_defs.proofs.Parted.{found_or}
use Rattle.flag_defs.proofs.members.take_both.Given as goal

abbrev pub invariant-loop-name : goal.invariant-loop-name
invariant-loop-name l =
    (found_or l.first l.members.items l.one ≡ find_member l.first (members_view l.initial.members.items)) ×
    (found_or l.second l.members.items l.other ≡ find_member l.second (members_view l.initial.members.items))

abbrev pub decreases-loop-name : goal.decreases-loop-name
decreases-loop-name l = length l.members.items
