use Rattle.std.proofs.Common.{◌≡◌, drop}
use Rattle.flag_text.specs.Shape.{items_have_other, members_have_other}
use Rattle.flag_text.specs.View.{items_view, members_view}
use Rattle.logic_eval.proofs.other.+tree.Given as goal

abbrev pub invariant-items_have_other-loop-item : goal.invariant-items_have_other-loop-item
invariant-items_have_other-loop-item l = items_have_other (items_view l.item-items) ≡ items_have_other (items_view (drop l.item-index l.item-items))

abbrev pub invariant-members_have_other-loop-member : goal.invariant-members_have_other-loop-member
invariant-members_have_other-loop-member l = members_have_other (members_view l.member-items) ≡ members_have_other (members_view (drop l.member-index l.member-items))
