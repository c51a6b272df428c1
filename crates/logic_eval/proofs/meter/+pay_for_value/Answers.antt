use Rattle.std.proofs.Common.{◌≡◌, [], drop, map, ap, ◌∙◌, sym, arith}
use Rattle.std.proofs.lemmas.List.{drop_all}
use Rattle.flag_text.specs.View.{items_of}
use Rattle.logic_eval.specs.Budget.{paid}
use Rattle.logic_eval.specs.Run.{spends}
use Rattle.logic_eval.specs.Scope.{size, items_size}
use Rattle.logic_eval.specs.Views.{progress}
use Rattle.logic_values.specs.Views.{value_view}
use Rattle.logic_eval.proofs.Budgets.{spends_ok, spends_err, spends_none}
use Rattle.logic_eval.proofs.Exits.{exits, gives_same}
use Rattle.logic_eval.proofs.Sizes.{items_ok, items_err}
use Rattle.logic_values.proofs.Surfaces.{value_items}
use Rattle.logic_eval.proofs.Scopes.{fold_size}
use Rattle.logic_eval.proofs.meter.+pay_for_value.Goals as goal

pub pay_for_value-returns-in_err-pay-in-Items : goal.pay_for_value-returns-in_err-pay-in-Items
pay_for_value-returns-in_err-pay-in-Items t c = record {
  exact = exits _ _ _ _ c.from_residual.ensures.1
      (λ n. ap (λ s. paid (progress c.args.meter.now) (spends (size s))) (ap value_view c.in-Items.is ∙ value_items c.in-Items.items) ∙ spends_err _ _ _ _ (c.in_err-pay-in-Items.ensures.exact n));
}

pub pay_for_value-returns-in_ok-pay-in-Items : goal.pay_for_value-returns-in_ok-pay-in-Items
pay_for_value-returns-in_ok-pay-in-Items t c = record {
  exact = gives_same _ _ _ _
      (ap (λ s. paid (progress c.args.meter.now) (spends (size s))) (ap value_view c.in-Items.is ∙ value_items c.in-Items.items) ∙ spends_ok _ _ _ _ _ c.in_ok-pay-in-Items.ensures.exact)
      c.pay_for_values.ensures.exact;
}

pub pay_for_values-returns-in_err-pay_for_value : goal.pay_for_values-returns-in_err-pay_for_value
pay_for_values-returns-in_err-pay_for_value t c =
    let xs = c.deref-value-items.result.now in record {
      exact = exits _ _ _ _ c.from_residual.ensures.1
          (λ n. ap (λ vs. paid (progress c.args.meter.now) (spends (items_size (items_of (map value_view vs))))) (sym c.deref-value-items.ensures.value)
          ∙ (c.loop-value.invariant ∙ items_err value_view xs c.loop-value.value-index c.value-item.result _ _ (omega arith) c.value-item.is (c.in_err-pay_for_value.ensures.exact n)));
    }

pub pay_for_values-loop-value-preserved : goal.pay_for_values-loop-value-preserved
pay_for_values-loop-value-preserved t c =
    c.loop-value.invariant ∙ items_ok value_view c.deref-value-items.result.now c.loop-value.value-index c.value-item.result _ _ _ (omega arith) c.value-item.is c.in_ok-pay_for_value.ensures.exact

pub pay_for_values-returns : goal.pay_for_values-returns
pay_for_values-returns t c =
    let xs = c.deref-value-items.result.now in
    let end : drop c.loop-value.value-index xs ≡ [] = drop_all c.loop-value.value-index xs (omega arith) in record {
      exact = ap (λ vs. paid (progress c.args.meter.now) (spends (items_size (items_of (map value_view vs))))) (sym c.deref-value-items.ensures.value)
          ∙ (c.loop-value.invariant ∙ ap (λ vs. paid (progress c.loop-value.meter) (spends (items_size (items_of (map value_view vs))))) end ∙ spends_none (progress c.loop-value.meter));
    }

pub pay_for_value-returns-in_err-pay-in-Fold : goal.pay_for_value-returns-in_err-pay-in-Fold
pay_for_value-returns-in_err-pay-in-Fold t c = record {
  exact = exits _ _ _ _ c.from_residual-in_err-pay-in-Fold.ensures.1
      (λ n. ap (λ s. paid (progress c.args.meter.now) (spends (size (value_view s)))) c.in-Fold.is
      ∙ (ap (λ k. paid (progress c.args.meter.now) (spends k)) (fold_size c.in-Fold.so_far c.in-Fold.current) ∙ spends_err _ _ _ _ (c.in_err-pay-in-Fold.ensures.exact n)));
}

pub pay_for_value-returns-in_err-pay_for_value-in-Fold : goal.pay_for_value-returns-in_err-pay_for_value-in-Fold
pay_for_value-returns-in_err-pay_for_value-in-Fold t c = record {
  exact = exits _ _ _ _ c.from_residual-in_err-pay_for_value-in-Fold.ensures.1
      (λ n. ap (λ s. paid (progress c.args.meter.now) (spends (size (value_view s)))) c.in-Fold.is
      ∙ (ap (λ k. paid (progress c.args.meter.now) (spends k)) (fold_size c.in-Fold.so_far c.in-Fold.current)
      ∙ (spends_ok _ _ _ _ _ c.in_ok-pay-in-Fold.ensures.exact
      ∙ spends_err _ _ _ _ (ap (λ v. paid (progress c.pay-in-Fold.new.self) (spends (size (value_view v)))) (sym c.deref.ensures) ∙ c.in_err-pay_for_value-in-Fold.ensures.exact n))));
}

pub pay_for_value-returns-in_ok-pay_for_value-in-Fold : goal.pay_for_value-returns-in_ok-pay_for_value-in-Fold
pay_for_value-returns-in_ok-pay_for_value-in-Fold t c = record {
  exact = gives_same _ _ _ _
      (ap (λ s. paid (progress c.args.meter.now) (spends (size (value_view s)))) c.in-Fold.is
      ∙ (ap (λ k. paid (progress c.args.meter.now) (spends k)) (fold_size c.in-Fold.so_far c.in-Fold.current)
      ∙ (spends_ok _ _ _ _ _ c.in_ok-pay-in-Fold.ensures.exact
      ∙ (spends_ok _ _ _ _ _ (ap (λ v. paid (progress c.pay-in-Fold.new.self) (spends (size (value_view v)))) (sym c.deref.ensures) ∙ c.in_ok-pay_for_value-in-Fold.ensures.exact)
      ∙ ap (λ v. paid (progress c.pay_for_value.new.meter) (spends (size (value_view v)))) (sym c.deref-in-Fold.ensures)))))
      c.pay_for_value-in-Fold.ensures.exact;
}
