use Rattle.std.proofs.Common.{ap, ◌∙◌}
use Rattle.flag_text.specs.View.{view, members_view}
use Rattle.flag_text.proofs.Halving.{names_rise-tidy}
use Rattle.logic_eval.specs.Budget.{paid}
use Rattle.logic_eval.specs.Run.{spends}
use Rattle.logic_eval.specs.Views.{progress}
use Rattle.logic_eval.proofs.Budgets.{spends_ok, spends_err}
use Rattle.logic_eval.proofs.Exits.{exits, gives_same}
use Rattle.logic_eval.proofs.Scopes.{size-root}
use Rattle.logic_eval.proofs.meter.pay_for_root.Goals as goal

pub returns-in_err-pay : goal.returns-in_err-pay
returns-in_err-pay c = record {
  exact = exits _ _ _ _ c.from_residual.ensures.1
      (λ n. ap (λ k. paid (progress c.args.meter.now) (spends k)) (size-root (view c.args.root.flagd.now) (members_view c.args.root.members.now) (names_rise-tidy (members_view c.args.root.members.now) c.args.root.tidy)) ∙ spends_err _ _ _ _ (c.in_err-pay.ensures.exact n));
}

pub returns-in_err-pay_for : goal.returns-in_err-pay_for
returns-in_err-pay_for c = record {
  exact = exits _ _ _ _ c.from_residual-in_err-pay_for.ensures.1
      (λ n. ap (λ k. paid (progress c.args.meter.now) (spends k)) (size-root (view c.args.root.flagd.now) (members_view c.args.root.members.now) (names_rise-tidy (members_view c.args.root.members.now) c.args.root.tidy))
      ∙ (spends_ok _ _ _ _ _ c.in_ok-pay.ensures.exact ∙ spends_err _ _ _ _ (c.in_err-pay_for.ensures.exact n)));
}

pub returns : goal.returns
returns c = record {
  exact = gives_same _ _ _ _
      (ap (λ k. paid (progress c.args.meter.now) (spends k)) (size-root (view c.args.root.flagd.now) (members_view c.args.root.members.now) (names_rise-tidy (members_view c.args.root.members.now) c.args.root.tidy))
      ∙ (spends_ok _ _ _ _ _ c.in_ok-pay.ensures.exact ∙ spends_ok _ _ _ _ _ c.in_ok-pay_for.ensures.exact))
      c.pay_for_others.ensures.exact;
}
