use Rattle.std.proofs.Common.{◌∙◌, sym}
use Rattle.std.proofs.lemmas.Result.{IfOk-weaker}
use Rattle.control_answers.proofs.effect.effect_if_kept.Goals as goal

pub returns-then-points-old_points-clause-effect : goal.returns-then-points-old_points-clause-effect
returns-then-points-old_points-clause-effect c =
    let same = sym c.total-points.ensures.value ∙ c.if-points-old_points.true ∙ c.total-old_points.ensures.value in
    IfOk-weaker c.effect_on.result _ _ (λ e is. (λ _. is, λ other. absurd (other same))) c.effect_on.ensures.effect

pub returns-else-points-old_points-clause-effect : goal.returns-else-points-old_points-clause-effect
returns-else-points-old_points-clause-effect c =
    (λ same. absurd (c.if-points-old_points.false (c.total-points.ensures.value ∙ same ∙ sym c.total-old_points.ensures.value)), λ other. c.no_effect.ensures)
