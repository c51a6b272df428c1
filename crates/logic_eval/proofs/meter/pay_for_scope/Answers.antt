use Rattle.std.proofs.Common.{ap, ◌∙◌}
use Rattle.logic_eval.specs.Budget.{paid}
use Rattle.logic_eval.specs.Run.{spends}
use Rattle.logic_eval.specs.Scope.{size}
use Rattle.logic_eval.specs.Views.{progress, scope_view}
use Rattle.logic_values.specs.Views.{value_view}
use Rattle.logic_eval.proofs.Budgets.{spends_ok, spends_err}
use Rattle.logic_eval.proofs.Exits.{exits, gives_same}
use Rattle.logic_eval.proofs.Scopes.{size-fold}
use Rattle.logic_eval.proofs.meter.pay_for_scope.Goals as goal

pub returns-in_err-pay-in-Fold : goal.returns-in_err-pay-in-Fold
returns-in_err-pay-in-Fold c = record {
  exact = exits _ _ _ _ c.from_residual.ensures.1
      (λ n. ap (λ s. paid (progress c.args.meter.now) (spends (size (scope_view s)))) c.in-Fold.is
      ∙ (ap (λ k. paid (progress c.args.meter.now) (spends k)) (size-fold (value_view c.in-Fold.so_far.now) (value_view c.in-Fold.current.now)) ∙ spends_err _ _ _ _ (c.in_err-pay-in-Fold.ensures.exact n)));
}

pub returns-in_err-pay_for_value-in-Fold : goal.returns-in_err-pay_for_value-in-Fold
returns-in_err-pay_for_value-in-Fold c = record {
  exact = exits _ _ _ _ c.from_residual-in_err-pay_for_value-in-Fold.ensures.1
      (λ n. ap (λ s. paid (progress c.args.meter.now) (spends (size (scope_view s)))) c.in-Fold.is
      ∙ (ap (λ k. paid (progress c.args.meter.now) (spends k)) (size-fold (value_view c.in-Fold.so_far.now) (value_view c.in-Fold.current.now))
      ∙ (spends_ok _ _ _ _ _ c.in_ok-pay-in-Fold.ensures.exact ∙ spends_err _ _ _ _ (c.in_err-pay_for_value-in-Fold.ensures.exact n))));
}

pub returns-in_ok-pay_for_value-in-Fold : goal.returns-in_ok-pay_for_value-in-Fold
returns-in_ok-pay_for_value-in-Fold c = record {
  exact = gives_same _ _ _ _
      (ap (λ s. paid (progress c.args.meter.now) (spends (size (scope_view s)))) c.in-Fold.is
      ∙ (ap (λ k. paid (progress c.args.meter.now) (spends k)) (size-fold (value_view c.in-Fold.so_far.now) (value_view c.in-Fold.current.now))
      ∙ (spends_ok _ _ _ _ _ c.in_ok-pay-in-Fold.ensures.exact ∙ spends_ok _ _ _ _ _ c.in_ok-pay_for_value-in-Fold.ensures.exact)))
      c.pay_for_value-in-Fold-2.ensures.exact;
}
