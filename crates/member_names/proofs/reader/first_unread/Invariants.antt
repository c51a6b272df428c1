use Rattle.std.proofs.Common.{◌≡◌, drop}
use Rattle.flag_text.specs.View.{members_view}
use Rattle.member_names.specs.Unread.{first_unread}
use Rattle.member_names.proofs.reader.first_unread.Given as goal

abbrev pub invariant-loop-name : goal.invariant-loop-name
invariant-loop-name l = first_unread l.reader (members_view (drop l.name-index l.members)) ≡ first_unread l.reader (members_view l.members)
