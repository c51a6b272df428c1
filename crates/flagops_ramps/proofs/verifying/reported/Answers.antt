use Rattle.std.proofs.Common.{is_some, map}
use Rattle.flagops_files.specs.Question.{question_view}
use Rattle.plan_text.specs.Answer.{planned_view}
use Rattle.ramp.specs.Steps.{requests_view}
use Rattle.flagops_shell.specs.declared.outcome.Outcome.{Outcome}
use Rattle.flagops_rollouts.proofs.Parts.{tells_result}
use Rattle.flagops_ramps.specs.Doubts.{doubt_of_steps, doubt_parts_of_steps, settle}
use Rattle.flagops_ramps.specs.Verify.{report_valid}
use Rattle.flagops_ramps.specs.declared.refusal.StepCall.TheVariants as call
use Rattle.flagops_ramps.proofs.Besides.{refused_so, told_so}
use Rattle.flagops_ramps.proofs.verifying.reported.Goals as goal

pub returns-in-Ok-clause-exact : goal.returns-in-Ok-clause-exact
returns-in-Ok-clause-exact g c =
    let a = c.args.right.now in
    let doubt = doubt_of_steps (question_view a.question) (requests_view a.steps.items) in
    told_so (settle call.VerifyRamp c.args.asked.now.rollout.strict doubt) (is_some c.in-Ok.remark) (report_valid (map planned_view a.answers.items)) c.valid.result (rw c.as_slice-steps.ensures.value at c.in-Ok.ensures.exact) (rw c.as_slice.ensures.value at c.valid.ensures.exact)

pub returns-in-Err-clause-exact : goal.returns-in-Err-clause-exact
returns-in-Err-clause-exact g c =
    let a = c.args.right.now in
    let doubt = doubt_of_steps (question_view a.question) (requests_view a.steps.items) in
    refused_so (settle call.VerifyRamp c.args.asked.now.rollout.strict doubt) (report_valid (map planned_view a.answers.items)) c.in-Err.told (rw c.as_slice-steps.ensures.value at c.in-Err.ensures.exact)

pub returns-in-Ok-clause-parts : goal.returns-in-Ok-clause-parts
returns-in-Ok-clause-parts g c =
    let a = c.args.right.now in
    let rollout = c.args.asked.now.rollout in
    let parts = doubt_parts_of_steps rollout.steps.now rollout.book.now (question_view a.question) (requests_view a.steps.items) in
    tells_result (λ (o : Outcome). o.remark) parts c.in-Ok.remark c.valid.result (rw c.as_slice-steps.ensures.value at c.in-Ok.ensures.parts) c.valid.ensures.remark
