use Rattle.std.proofs.Common.{sym, ◌∙◌}
use Rattle.logic_values.specs.Views.{value_view}
use Rattle.logic_eval.proofs.Branches.{read_decimal_ok, read_decimal_err}
use Rattle.logic_eval.proofs.Budgets.{bind_ok, bind_err}
use Rattle.logic_eval.proofs.Exits.{exits}
use Rattle.logic_eval.proofs.variable.variable_or_decimal.Goals as goal

pub returns-in_err-value : goal.returns-in_err-value
returns-in_err-value c = record {
  exact = exits _ _ _ _ c.from_residual.ensures.1 (λ n. bind_err _ _ _ _ (c.in_err-value.ensures.exact n));
}

pub returns-then-is_unreadable : goal.returns-then-is_unreadable
returns-then-is_unreadable c = record {
  exact = λ n. bind_ok _ _ _ _ _ c.in_ok-value.ensures.exact ∙ read_decimal_err _ (value_view c.in_ok-value.value) (sym c.if-is_unreadable.ensures.exact);
}

pub returns : goal.returns
returns c = record {
  exact = bind_ok _ _ _ _ _ c.in_ok-value.ensures.exact ∙ read_decimal_ok _ (value_view c.in_ok-value.value) (sym c.if-is_unreadable.ensures.exact);
}
