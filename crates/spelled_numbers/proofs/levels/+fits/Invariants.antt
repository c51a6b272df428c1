use Rattle.std.proofs.Common.{◌≤◌, ◌↔◌, drop}
use Rattle.flag_text.specs.View.{items_view, members_view}
use Rattle.spelled_numbers.specs.Levels.{sent_items_levels, sent_members_levels}
use Rattle.spelled_numbers.proofs.levels.+fits.Given as goal

abbrev pub invariant-items_fit-loop-item : goal.invariant-items_fit-loop-item
invariant-items_fit-loop-item l =
    (sent_items_levels (items_view l.item-items) ≤ l.most) ↔ (sent_items_levels (items_view (drop l.item-index l.item-items)) ≤ l.most)

abbrev pub invariant-members_fit-loop-member : goal.invariant-members_fit-loop-member
invariant-members_fit-loop-member l =
    (sent_members_levels (members_view l.member-items) ≤ l.most) ↔ (sent_members_levels (members_view (drop l.member-index l.member-items)) ≤ l.most)
