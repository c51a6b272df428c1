use Rattle.std.proofs.Common.{◌+◌, ◌*◌, take}
use Rattle.flag_text.specs.View.{items_view, members_view}
use Rattle.flag_references.specs.Forms.{AreInlined, MembersAreInlined}
use Rattle.flag_references.proofs.expansion.+expanded.Given as goal

abbrev pub decreases-expanded : goal.decreases-expanded
decreases-expanded l = 2 * l.most

abbrev pub decreases-expanded_items : goal.decreases-expanded_items
decreases-expanded_items l = 2 * l.most + 1

abbrev pub decreases-expanded_members : goal.decreases-expanded_members
decreases-expanded_members l = 2 * l.most + 1

abbrev pub invariant-expanded_items-loop-item : goal.invariant-expanded_items-loop-item
invariant-expanded_items-loop-item l = AreInlined (members_view l.evaluators) (items_view (take l.item-index l.item-items)) (items_view l.forms.items)

abbrev pub invariant-expanded_members-loop-name : goal.invariant-expanded_members-loop-name
invariant-expanded_members-loop-name l = MembersAreInlined (members_view l.evaluators) (members_view (take l.name-index l.name-items)) (members_view l.forms.items)
