use Rattle.std.proofs.Common.{option_map, unwrap_or}
use Rattle.flagops_files.proofs.Told.{says}
use Rattle.flagops_files.specs.Question.{question_view}
use Rattle.flagops_rollouts.specs.ByHand.{TellsEdit}
use Rattle.flagops_rollouts.proofs.Edits.{names}
use Rattle.flagops_rollouts.proofs.explained.explained.Goals as goal
use Rattle.plan_text.specs.Answer.{planned_view}

pub returns-clause-names : goal.returns-clause-names
returns-clause-names g c =
    let m = unwrap_or (option_map (λ m. m.number) c.args.refine) 1 in
    names c.args.path.now (question_view c.args.question.now) m (planned_view c.args.planned.now) c.of.result
    (says (TellsEdit c.args.path.now (question_view c.args.question.now) m (planned_view c.args.planned.now)) c.lines.result c.of.result c.of.ensures.lines c.of.ensures.short c.lines.ensures)
