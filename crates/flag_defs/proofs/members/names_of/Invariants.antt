use Rattle.std.proofs.Common.{◌≡◌, ◌++◌, map, drop, string_bytes}
use Rattle.flag_text.specs.View.{members_view}
use Rattle.flag_defs.specs.Flag.{member_names}
use Rattle.flag_defs.proofs.members.names_of.Given as goal

abbrev pub invariant-loop-name : goal.invariant-loop-name
invariant-loop-name l = map string_bytes l.names.items ++ member_names (members_view (drop l.name-index l.members)) ≡ member_names (members_view l.members)
