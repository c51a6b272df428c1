use Rattle.std.proofs.Common.{◌≡◌, drop}
use Rattle.flag_text.specs.View.{members_view}
use Rattle.flagops_ramps.specs.Doubts.{has_unread_member}
use Rattle.flagops_ramps.proofs.doubts.has_unread.Given as goal

abbrev pub invariant-loop-name : goal.invariant-loop-name
invariant-loop-name l = has_unread_member (members_view (drop l.name-index l.members)) ≡ has_unread_member (members_view l.members)
