use Rattle.std.proofs.Common.{Option, option_map}
use Rattle.flagops_files.specs.Question.{question_view}
use Rattle.flagops_shell.specs.declared.refused.Remark.{Remark}
use Rattle.ramp.specs.Steps.{requests_view}
use Rattle.flagops_rollouts.proofs.Parts.{tells_result}
use Rattle.flagops_ramps.specs.Doubts.{doubt_parts_of_steps}
use Rattle.flagops_ramps.proofs.doubts.settled.Goals as goal

pub returns-in-Ok-clause-parts : goal.returns-in-Ok-clause-parts
returns-in-Ok-clause-parts g c =
    let a = c.args.asked.now in
    let parts = doubt_parts_of_steps a.steps.now a.book.now (question_view c.args.question.now) (requests_view c.args.steps.now) in
    tells_result (λ (r : Option Remark). r) parts (option_map (λ d. d.remark) c.in-Ok.doubted) c.settle.result c.in-Ok.ensures.parts c.settle.ensures.remark
