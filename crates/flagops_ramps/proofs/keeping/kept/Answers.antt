use Rattle.std.proofs.Common.{◌∙◌, ap, map, option_map}
use Rattle.flagops_files.specs.Question.{question_view}
use Rattle.plan_text.specs.Answer.{planned_view}
use Rattle.flagops_ramps.specs.Apply.{answer_to}
use Rattle.flagops_ramps.proofs.Kept.{from_steps}
use Rattle.flagops_ramps.proofs.keeping.kept.Goals as goal

pub returns-clause-exact : goal.returns-clause-exact
returns-clause-exact g c =
    from_steps c.args.asked.now.answered.rollout.floats (option_map (λ m. m.number) c.args.asked.now.answered.rollout.refine) c.args.question.now.document.items (question_view c.args.question.now) c.args.asked.now.step (option_map (λ p. planned_view p.now) c.answer_to-before.result)
    c.args.steps.now c.from_step-steps.result.now c.args.answers.now c.from_step-answers.result.now c.kept_from.result (c.answer_to-before.ensures ∙ ap (answer_to (map planned_view c.args.answers.now)) c.saturating_sub.ensures) c.from_step-steps.ensures c.from_step-answers.ensures c.kept_from.ensures.exact
