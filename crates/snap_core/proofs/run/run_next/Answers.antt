use Rattle.std.proofs.Common.{[], ◌∷◌, ap, ◌∙◌}
use Rattle.std.proofs.lemmas.List.{map-append}
use Rattle.snap_core.specs.Event.{answer_view, answers_view}
use Rattle.snap_core.proofs.run.run_next.Goals as goal

pub returns-clause-steps : goal.returns-clause-steps
returns-clause-steps c =
    let answer = c.in_ok-answer.answer in
    (answer_view answer, ap answers_view c.in_ok-push.ensures.items ∙ map-append answer_view c.args.answers.now.items (answer ∷ []), c.in_ok-answer.ensures.steps)
