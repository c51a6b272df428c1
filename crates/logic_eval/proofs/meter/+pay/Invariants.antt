use Rattle.std.proofs.Common.{◌≡◌, drop}
use Rattle.flag_text.specs.View.{items_view, members_view}
use Rattle.logic_eval.specs.Budget.{paid}
use Rattle.logic_eval.specs.Run.{spends}
use Rattle.logic_eval.specs.Scope.{items_size, members_size}
use Rattle.logic_eval.specs.Views.{progress}
use Rattle.logic_eval.proofs.meter.+pay.Given as goal

abbrev pub invariant-pay_for_items-loop-item : goal.invariant-pay_for_items-loop-item
invariant-pay_for_items-loop-item l =
    paid (progress l.fn.meter) (spends (items_size (items_view l.item-items))) ≡ paid (progress l.meter) (spends (items_size (items_view (drop l.item-index l.item-items))))

abbrev pub invariant-pay_for_members-loop-member : goal.invariant-pay_for_members-loop-member
invariant-pay_for_members-loop-member l =
    paid (progress l.fn.meter) (spends (members_size (members_view l.member-items))) ≡ paid (progress l.meter) (spends (members_size (members_view (drop l.member-index l.member-items))))
