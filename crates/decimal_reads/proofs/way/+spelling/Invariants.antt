use Rattle.std.proofs.Common.{◌≡◌, drop}
use Rattle.flag_text.specs.View.{items_view, members_view}
use Rattle.decimal_reads.specs.Inside.{spelling_in_items, spelling_in_members}
use Rattle.decimal_reads.proofs.way.+spelling.Given as goal

abbrev pub invariant-spelling_in_items-loop-item : goal.invariant-spelling_in_items-loop-item
invariant-spelling_in_items-loop-item l = spelling_in_items (items_view l.item-items) ≡ spelling_in_items (items_view (drop l.item-index l.item-items))

abbrev pub invariant-spelling_in_members-loop-member : goal.invariant-spelling_in_members-loop-member
invariant-spelling_in_members-loop-member l = spelling_in_members (members_view l.member-items) ≡ spelling_in_members (members_view (drop l.member-index l.member-items))
