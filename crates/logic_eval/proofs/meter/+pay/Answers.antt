use Rattle.std.proofs.Common.{◌≡◌, [], drop, ap, ◌∙◌, sym, arith}
use Rattle.std.proofs.lemmas.List.{drop_all}
use Rattle.flag_text.specs.View.{view, items_view, members_view}
use Rattle.logic_eval.specs.Budget.{paid}
use Rattle.logic_eval.specs.Run.{spends}
use Rattle.logic_eval.specs.Scope.{size, items_size, members_size}
use Rattle.logic_eval.specs.Views.{progress}
use Rattle.logic_eval.proofs.Budgets.{spends_ok, spends_err, spends_none}
use Rattle.logic_eval.proofs.Exits.{exits, gives_same}
use Rattle.logic_values.proofs.Members.{view_object}
use Rattle.logic_eval.proofs.Sizes.{items_ok, items_err, members_ok, members_err}
use Rattle.logic_values.proofs.Truths.{view_list}
use Rattle.logic_eval.proofs.meter.+pay.Goals as goal

pub pay_for-returns-in_err-pay-in-List : goal.pay_for-returns-in_err-pay-in-List
pay_for-returns-in_err-pay-in-List t c = record {
  exact = exits _ _ _ _ c.from_residual.ensures.1
      (λ n. ap (λ s. paid (progress c.args.meter.now) (spends (size s))) (ap view c.in-List.is ∙ view_list c.in-List.items) ∙ spends_err _ _ _ _ (c.in_err-pay-in-List.ensures.exact n));
}

pub pay_for-returns-in_ok-pay-in-List : goal.pay_for-returns-in_ok-pay-in-List
pay_for-returns-in_ok-pay-in-List t c = record {
  exact = gives_same _ _ _ _
      (ap (λ s. paid (progress c.args.meter.now) (spends (size s))) (ap view c.in-List.is ∙ view_list c.in-List.items) ∙ spends_ok _ _ _ _ _ c.in_ok-pay-in-List.ensures.exact)
      c.pay_for_items.ensures.exact;
}

pub pay_for-returns-in_err-pay-in-Object : goal.pay_for-returns-in_err-pay-in-Object
pay_for-returns-in_err-pay-in-Object t c = record {
  exact = exits _ _ _ _ c.from_residual-in_err-pay-in-Object.ensures.1
      (λ n. ap (λ s. paid (progress c.args.meter.now) (spends (size s))) (ap view c.in-Object.is ∙ view_object c.in-Object.members) ∙ spends_err _ _ _ _ (c.in_err-pay-in-Object.ensures.exact n));
}

pub pay_for-returns-in_ok-pay-in-Object : goal.pay_for-returns-in_ok-pay-in-Object
pay_for-returns-in_ok-pay-in-Object t c = record {
  exact = gives_same _ _ _ _
      (ap (λ s. paid (progress c.args.meter.now) (spends (size s))) (ap view c.in-Object.is ∙ view_object c.in-Object.members) ∙ spends_ok _ _ _ _ _ c.in_ok-pay-in-Object.ensures.exact)
      c.pay_for_members.ensures.exact;
}

pub pay_for_items-returns-in_err-pay_for : goal.pay_for_items-returns-in_err-pay_for
pay_for_items-returns-in_err-pay_for t c =
    let xs = c.deref-item-items.result.now in record {
      exact = exits _ _ _ _ c.from_residual.ensures.1
          (λ n. ap (λ ts. paid (progress c.args.meter.now) (spends (items_size (items_view ts)))) (sym c.deref-item-items.ensures.value)
          ∙ (c.loop-item.invariant ∙ items_err view xs c.loop-item.item-index c.item-item.result _ _ (omega arith) c.item-item.is (c.in_err-pay_for.ensures.exact n)));
    }

pub pay_for_items-loop-item-preserved : goal.pay_for_items-loop-item-preserved
pay_for_items-loop-item-preserved t c =
    c.loop-item.invariant ∙ items_ok view c.deref-item-items.result.now c.loop-item.item-index c.item-item.result _ _ _ (omega arith) c.item-item.is c.in_ok-pay_for.ensures.exact

pub pay_for_items-returns : goal.pay_for_items-returns
pay_for_items-returns t c =
    let xs = c.deref-item-items.result.now in
    let end : drop c.loop-item.item-index xs ≡ [] = drop_all c.loop-item.item-index xs (omega arith) in record {
      exact = ap (λ ts. paid (progress c.args.meter.now) (spends (items_size (items_view ts)))) (sym c.deref-item-items.ensures.value)
          ∙ (c.loop-item.invariant ∙ ap (λ ts. paid (progress c.loop-item.meter) (spends (items_size (items_view ts)))) end ∙ spends_none (progress c.loop-item.meter));
    }

pub pay_for_members-returns-in_err-pay_for : goal.pay_for_members-returns-in_err-pay_for
pay_for_members-returns-in_err-pay_for t c =
    let xs = c.deref-member-items.result.now in record {
      exact = exits _ _ _ _ c.from_residual.ensures.1
          (λ n. ap (λ ts. paid (progress c.args.meter.now) (spends (members_size (members_view ts)))) (sym c.deref-member-items.ensures.value)
          ∙ (c.loop-member.invariant ∙ members_err xs c.loop-member.member-index c.loop-member-item.result _ _ (omega arith) c.loop-member-item.is (c.in_err-pay_for.ensures.exact n)));
    }

pub pay_for_members-loop-member-preserved : goal.pay_for_members-loop-member-preserved
pay_for_members-loop-member-preserved t c =
    c.loop-member.invariant ∙ members_ok c.deref-member-items.result.now c.loop-member.member-index c.loop-member-item.result _ _ _ (omega arith) c.loop-member-item.is c.in_ok-pay_for.ensures.exact

pub pay_for_members-returns : goal.pay_for_members-returns
pay_for_members-returns t c =
    let xs = c.deref-member-items.result.now in
    let end : drop c.loop-member.member-index xs ≡ [] = drop_all c.loop-member.member-index xs (omega arith) in record {
      exact = ap (λ ts. paid (progress c.args.meter.now) (spends (members_size (members_view ts)))) (sym c.deref-member-items.ensures.value)
          ∙ (c.loop-member.invariant ∙ ap (λ ts. paid (progress c.loop-member.meter) (spends (members_size (members_view ts)))) end ∙ spends_none (progress c.loop-member.meter));
    }
