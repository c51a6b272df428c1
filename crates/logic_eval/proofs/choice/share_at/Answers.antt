use Rattle.std.proofs.Common.{◌<◌, length, option_map, Some, refl, sym, ap, ◌∙◌, arith}
use Rattle.flag_text.specs.Shape.{text}
use Rattle.logic_eval.specs.Views.{weighted_variant_view}
use Rattle.logic_eval.proofs.Choices.{is_named, name_here, name_later, no_entry, name_end}
use Rattle.logic_eval.proofs.choice.share_at.Goals as goal

pub loop-share-init : goal.loop-share-init
loop-share-init c = λ r e. record { rest = r; entries = e; same = refl }

pub loop-share-preserved : goal.loop-share-preserved
loop-share-preserved c = let h : c.loop-share.share-index < length c.args.shares.now = omega arith in
    λ r e. name_later c.args.shares.now c.loop-share.share-index c.share-item.result h c.share-item.is c.args.point c.loop-share.left r (c.loop-share.invariant r e) _ c.in_ok-weight.ensures.value (omega arith)

pub returns-in_err-weight : goal.returns-in_err-weight
returns-in_err-weight c = let h : c.loop-share.share-index < length c.args.shares.now = omega arith in
    λ r e. ap (option_map (λ s. (weighted_variant_view s.now).0)) c.from_residual.ensures
    ∙ sym (ap (option_map text) (no_entry c.args.shares.now c.loop-share.share-index c.share-item.result h c.share-item.is c.args.point c.loop-share.left r (c.loop-share.invariant r e) c.in_err-weight.ensures.value))

pub returns-then-left-weight : goal.returns-then-left-weight
returns-then-left-weight c = let h : c.loop-share.share-index < length c.args.shares.now = omega arith in
    λ r e. ap Some (is_named _ (weighted_variant_view c.share-item.result).0 _ c.in_ok-weight.ensures.value)
    ∙ sym (ap (option_map text) (name_here c.args.shares.now c.loop-share.share-index c.share-item.result h c.share-item.is c.args.point c.loop-share.left r (c.loop-share.invariant r e) _ c.in_ok-weight.ensures.value (omega arith)))

pub returns : goal.returns
returns c = λ r e. sym (ap (option_map text) (name_end c.args.shares.now c.loop-share.share-index c.args.point c.loop-share.left r (c.loop-share.invariant r e) (omega arith)))
