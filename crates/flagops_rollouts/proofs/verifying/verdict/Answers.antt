use Rattle.flagops_files.specs.Question.{question_view}
use Rattle.flagops_shell.specs.declared.outcome.Outcome.{Outcome}
use Rattle.flagops_rollouts.specs.Doubts.{doubt_parts}
use Rattle.flagops_rollouts.proofs.Parts.{tells_result}
use Rattle.flagops_rollouts.proofs.verifying.verdict.Goals as goal

pub returns-clause-parts : goal.returns-clause-parts
returns-clause-parts g c =
    tells_result (λ (o : Outcome). o.remark) (doubt_parts c.args.paths.request.now c.args.paths.book.now (question_view c.args.question.now)) c.in_ok-remark.remark c.valid.result c.in_ok-remark.ensures.parts c.valid.ensures.remark
