use Rattle.std.proofs.Common.{sym, ◌∙◌}
use Rattle.logic_values.specs.Views.{value_view}
use Rattle.logic_eval.proofs.Branches.{read_ok, read_err}
use Rattle.logic_eval.proofs.Budgets.{bind_ok, bind_err}
use Rattle.logic_eval.proofs.Exits.{exits}
use Rattle.logic_eval.proofs.variable.variable.Goals as goal

pub returns-in_err-value : goal.returns-in_err-value
returns-in_err-value c = record {
  exact = exits _ _ _ _ c.from_residual.ensures.1 (λ n. bind_err _ _ _ _ (c.in_err-value.ensures.exact n));
}

pub returns-then-has_other : goal.returns-then-has_other
returns-then-has_other c = record {
  exact = λ n. bind_ok _ _ _ _ _ c.in_ok-value.ensures.exact ∙ read_err _ (value_view c.in_ok-value.value) (sym c.if-has_other.ensures.exact);
}

pub returns : goal.returns
returns c = record {
  exact = bind_ok _ _ _ _ _ c.in_ok-value.ensures.exact ∙ read_ok _ (value_view c.in_ok-value.value) (sym c.if-has_other.ensures.exact);
}
