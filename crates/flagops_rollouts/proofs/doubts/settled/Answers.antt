use Rattle.std.proofs.Common.{Option, option_map}
use Rattle.flagops_files.specs.Question.{question_view}
use Rattle.flagops_shell.specs.declared.refused.Remark.{Remark}
use Rattle.flagops_rollouts.specs.Doubts.{doubt_parts}
use Rattle.flagops_rollouts.proofs.Parts.{tells_result}
use Rattle.flagops_rollouts.proofs.doubts.settled.Goals as goal

pub returns-in-Ok-clause-parts : goal.returns-in-Ok-clause-parts
returns-in-Ok-clause-parts g c =
    tells_result (λ (r : Option Remark). r) (doubt_parts c.args.request.now c.args.book.now (question_view c.args.question.now)) (option_map (λ d. d.remark) c.in-Ok.doubted) c.settle.result c.in-Ok.ensures.parts c.settle.ensures.remark
