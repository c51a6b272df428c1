use Rattle.std.proofs.Common.{◌≡◌, drop}
use Rattle.flag_text.specs.View.{items_view, members_view}
use Rattle.flag_defs.specs.PrintedBytes.{items_bytes, members_bytes}
use Rattle.flag_defs.proofs.printed_bytes.+printed.Given as goal

abbrev pub invariant-items_bytes-loop-i : goal.invariant-items_bytes-loop-i
invariant-items_bytes-loop-i l = items_bytes (items_view (drop l.i l.items.items)) ≡ l.bytes

abbrev pub invariant-members_bytes-loop-i : goal.invariant-members_bytes-loop-i
invariant-members_bytes-loop-i l = members_bytes (members_view (drop l.i l.members.items)) ≡ l.bytes
