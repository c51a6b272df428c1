use Rattle.std.proofs.Common.{◌+◌, ◌*◌, ◌≡◌, take, drop}
use Rattle.flag_text.specs.View.{items_view, members_view}
use Rattle.flag_references.specs.Forms.{AreInlined, MembersAreInlined}
use Rattle.flag_references.proofs.expansion.+expand.Given as goal

abbrev pub decreases-expand : goal.decreases-expand
decreases-expand l = 2 * l.most

abbrev pub decreases-expand_items : goal.decreases-expand_items
decreases-expand_items l = 2 * l.most + 1

abbrev pub decreases-expand_members : goal.decreases-expand_members
decreases-expand_members l = 2 * l.most + 1

abbrev pub invariant-expand_items-loop-item : goal.invariant-expand_items-loop-item
invariant-expand_items-loop-item l =
    AreInlined (members_view l.evaluators) (items_view (take l.item-index l.initial.item-items)) (items_view (take l.item-index l.item-items)) × (drop l.item-index l.item-items ≡ drop l.item-index l.initial.item-items)

abbrev pub invariant-expand_members-loop-member : goal.invariant-expand_members-loop-member
invariant-expand_members-loop-member l =
    MembersAreInlined (members_view l.evaluators) (members_view (take l.member-index l.initial.member-items)) (members_view (take l.member-index l.member-items))
    × (drop l.member-index l.member-items ≡ drop l.member-index l.initial.member-items)
