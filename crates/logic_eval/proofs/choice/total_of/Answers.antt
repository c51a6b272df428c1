use Rattle.std.proofs.Common.{◌<◌, ◌+◌, map, drop, length, sym, ◌∙◌, arith}
use Rattle.logic_eval.specs.Views.{weighted_variant_view}
use Rattle.logic_eval.proofs.Choices.{totals-start, totals_next, totals_none, totals_heavy, totals_end}
use Rattle.logic_eval.proofs.choice.total_of.Goals as goal

pub loop-share-init : goal.loop-share-init
loop-share-init c = record { answers = totals-start (map weighted_variant_view c.args.shares.now); small = omega arith }

pub loop-share-preserved : goal.loop-share-preserved
loop-share-preserved c = let h : c.loop-share.share-index < length c.args.shares.now = omega arith in record {
  answers = c.loop-share.invariant.answers ∙ totals_next c.loop-share.total c.args.shares.now c.loop-share.share-index c.share-item.result h c.share-item.is _ c.in_ok-weight.ensures.value;
  small = omega arith;
}

pub returns-in_err-weight-clause-value : goal.returns-in_err-weight-clause-value
returns-in_err-weight-clause-value c = let h : c.loop-share.share-index < length c.args.shares.now = omega arith in
    c.from_residual.ensures ∙ sym (c.loop-share.invariant.answers ∙ totals_none c.loop-share.total c.args.shares.now c.loop-share.share-index c.share-item.result h c.share-item.is c.in_err-weight.ensures.value)

pub returns-then-total-gt-MAX_TOTAL-clause-value : goal.returns-then-total-gt-MAX_TOTAL-clause-value
returns-then-total-gt-MAX_TOTAL-clause-value c = let h : c.loop-share.share-index < length c.args.shares.now = omega arith in
    sym (c.loop-share.invariant.answers ∙ (totals_next c.loop-share.total c.args.shares.now c.loop-share.share-index c.share-item.result h c.share-item.is _ c.in_ok-weight.ensures.value ∙ totals_heavy (c.loop-share.total + c.in_ok-weight.weight) (map weighted_variant_view (drop (c.loop-share.share-index + 1) c.args.shares.now)) (omega arith)))

pub returns-clause-value : goal.returns-clause-value
returns-clause-value c = sym (c.loop-share.invariant.answers ∙ totals_end c.loop-share.total c.args.shares.now c.loop-share.share-index (omega arith) c.loop-share.invariant.small)
