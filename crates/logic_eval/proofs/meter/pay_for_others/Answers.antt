use Rattle.std.proofs.Common.{◌<◌, length, arith, ap, ◌∙◌}
use Rattle.std.specs.Prelude.{codes}
use Rattle.logic_eval.specs.Budget.{paid}
use Rattle.logic_eval.specs.Run.{spends}
use Rattle.logic_eval.specs.Views.{progress}
use Rattle.logic_eval.proofs.Budgets.{spends_ok, spends_err, spends_none}
use Rattle.logic_eval.proofs.Exits.{exits}
use Rattle.logic_eval.proofs.Scopes.{others_at, others_end}
use Rattle.logic_eval.proofs.meter.pay_for_others.Goals as goal

pub returns-in_err-pay_for_other : goal.returns-in_err-pay_for_other
returns-in_err-pay_for_other c =
    let xs = c.args.members.now in
    let h : c.loop-key.key-index < length xs = omega arith in record {
      exact = exits _ _ _ _ c.from_residual.ensures.1
          (λ n. c.loop-key.invariant ∙ (ap (λ k. paid (progress c.loop-key.meter) (spends k)) (others_at (codes "$flagd") xs c.loop-key.key-index c.loop-key-item.result h c.loop-key-item.is) ∙ spends_err _ _ _ _ (c.in_err-pay_for_other.ensures.exact n)));
    }

pub loop-key-preserved : goal.loop-key-preserved
loop-key-preserved c =
    let xs = c.args.members.now in
    let h : c.loop-key.key-index < length xs = omega arith in
    c.loop-key.invariant ∙ (ap (λ k. paid (progress c.loop-key.meter) (spends k)) (others_at (codes "$flagd") xs c.loop-key.key-index c.loop-key-item.result h c.loop-key-item.is) ∙ spends_ok _ _ _ _ _ c.in_ok-pay_for_other.ensures.exact)

pub returns : goal.returns
returns c = record {
  exact = c.loop-key.invariant ∙ (ap (λ k. paid (progress c.loop-key.meter) (spends k)) (others_end (codes "$flagd") c.args.members.now c.loop-key.key-index (omega arith)) ∙ spends_none (progress c.loop-key.meter));
}
