use Rattle.std.proofs.Common.{◌∙◌, option_map}
use Rattle.flagops_files.specs.Question.{question_view}
use Rattle.plan_text.specs.Answer.{planned_view}
use Rattle.ramp.specs.Steps.{requests_view}
use Rattle.flagops_ramps.proofs.Kept.{from_asked, from_none, from_right, from_wrong}
use Rattle.flagops_ramps.proofs.keeping.kept_from.Goals as goal

pub kept_by-requires : goal.kept_by-requires
kept_by-requires g c =
    from_asked c.args.asked.now.answered.rollout.floats (option_map (λ m. m.number) c.args.asked.now.answered.rollout.refine) c.args.question.now.document.items (question_view c.args.question.now) (requests_view c.args.steps.now) (option_map (λ p. planned_view p.now) c.args.before)
    c.args.answers.now c.in-Some.planned.now c.factor_number-factor.result c.first_request.result.now c.in-Some.ensures.value c.factor_number-factor.ensures.value c.first_request.ensures c.in-Ok.ensures

pub returns-in-Ok-clause-exact : goal.returns-in-Ok-clause-exact
returns-in-Ok-clause-exact g c =
    from_right c.args.asked.now.answered.rollout.floats (option_map (λ m. m.number) c.args.asked.now.answered.rollout.refine) c.args.question.now.document.items (question_view c.args.question.now) (requests_view c.args.steps.now) (option_map (λ p. planned_view p.now) c.args.before)
    c.args.answers.now c.in-Some.planned.now c.factor_number-factor.result c.first_request.result.now c.kept_by.result c.in-Some.ensures.value c.factor_number-factor.ensures.value c.first_request.ensures c.in-Ok.ensures
    c.kept_by.ensures.exact

pub returns-in-Err-clause-exact : goal.returns-in-Err-clause-exact
returns-in-Err-clause-exact g c =
    from_wrong c.args.asked.now.answered.rollout.floats (option_map (λ m. m.number) c.args.asked.now.answered.rollout.refine) c.args.question.now.document.items (question_view c.args.question.now) (requests_view c.args.steps.now) (option_map (λ p. planned_view p.now) c.args.before)
    c.args.answers.now c.in-Some.planned.now c.factor_number-factor.result c.in-Err.fault c.wrong.result c.in-Some.ensures.value c.factor_number-factor.ensures.value c.in-Err.ensures (c.wrong.ensures.refusal ∙ c.behind.ensures)

pub returns-in_default-clause-exact : goal.returns-in_default-clause-exact
returns-in_default-clause-exact g c = λ no_want.
    from_none c.args.asked.now.answered.rollout.floats (option_map (λ m. m.number) c.args.asked.now.answered.rollout.refine) c.args.question.now.document.items (question_view c.args.question.now) (requests_view c.args.steps.now) (option_map (λ p. planned_view p.now) c.args.before)
    c.args.answers.now c.in_default.ensures.value
