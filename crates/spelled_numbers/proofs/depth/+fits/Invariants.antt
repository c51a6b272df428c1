use Rattle.std.proofs.Common.{◌≤◌, ◌↔◌, drop}
use Rattle.json.specs.Tree.{items_depth, members_depth}
use Rattle.json.specs.Value.{items_view, members_view}
use Rattle.spelled_numbers.proofs.depth.+fits.Given as goal

abbrev pub invariant-items_fit-loop-item : goal.invariant-items_fit-loop-item
invariant-items_fit-loop-item l = (items_depth (items_view l.item-items) ≤ l.most) ↔ (items_depth (items_view (drop l.item-index l.item-items)) ≤ l.most)

abbrev pub invariant-members_fit-loop-member : goal.invariant-members_fit-loop-member
invariant-members_fit-loop-member l = (members_depth (members_view l.member-items) ≤ l.most) ↔ (members_depth (members_view (drop l.member-index l.member-items)) ≤ l.most)
