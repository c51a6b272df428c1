use Rattle.std.proofs.Common.{◌≡◌, ◌||◌, ℕ, List, Err, is_some, map, rules, subst}
use Rattle.flagops_files.specs.Question.{question_view}
use Rattle.plan_text.specs.Answer.{Answer, planned_view}
use Rattle.ramp.specs.Steps.{requests_view}
use Rattle.flagops_rollouts.specs.Beside.{AreBehind}
use Rattle.flagops_rollouts.proofs.Parts.{noted_so, tells_behind}
use Rattle.flagops_ramps.specs.Doubts.{doubt_of_steps, doubt_parts_of_steps, settle}
use Rattle.flagops_ramps.specs.Keep.{from_step, is_finer_put}
use Rattle.flagops_ramps.specs.Remarks.{put_finer_parts}
use Rattle.flagops_ramps.specs.Words.{keeping_view}
use Rattle.flagops_ramps.specs.declared.refusal.StepCall.TheVariants as call
use Rattle.flagops_ramps.proofs.Kept.{answers_from, requests_from}
use Rattle.flagops_ramps.proofs.Noted.{not_noted}
use Rattle.flagops_ramps.proofs.keeping.noted.Goals as goal

pub returns-in-Ok-clause-exact : goal.returns-in-Ok-clause-exact
returns-in-Ok-clause-exact g c =
    let k = keeping_view c.args.asked.now in
    let q = question_view c.args.question.now in
    let requests = requests_view c.args.steps.now in
    let answers = map planned_view c.args.answers.now in
    let doubted = c.in_ok-doubted.doubted in
    let remark = c.in-Ok.remark in
    let rest = requests_view c.from_step-steps.result.now in
    let same_requests = requests_from k.step c.args.steps.now c.from_step-steps.result.now c.from_step-steps.ensures in
    let same_answers = answers_from k.step c.args.answers.now c.from_step-answers.result.now c.from_step-answers.ensures in
    noted_so (is_finer_put q.flags (from_step k.step requests) (from_step k.step answers)) (settle call.Apply k.answered.rollout.strict (doubt_of_steps q requests)) (is_some doubted) (is_some remark) c.in_ok-doubted.ensures.exact
    (subst (λ (rs : List (List ℕ)). is_some remark ≡ (is_some doubted || is_finer_put q.flags rs (from_step k.step answers))) same_requests
    (subst (λ (xs : List Answer). is_some remark ≡ (is_some doubted || is_finer_put q.flags rest xs)) same_answers c.in-Ok.ensures.told))

pub returns-in-Ok-clause-notes : goal.returns-in-Ok-clause-notes
returns-in-Ok-clause-notes g c = c.in-Ok.ensures.notes c.args.asked.now.answered.rollout.book.now c.in_ok-doubted.ensures.notes

pub returns-in-Ok-clause-parts : goal.returns-in-Ok-clause-parts
returns-in-Ok-clause-parts g c =
    let k = keeping_view c.args.asked.now in
    let q = question_view c.args.question.now in
    let requests = requests_view c.args.steps.now in
    let answers = map planned_view c.args.answers.now in
    let path = k.answered.rollout.steps in
    let doubted = c.in_ok-doubted.doubted in
    let remark = c.in-Ok.remark in
    let rest = requests_view c.from_step-steps.result.now in
    let same_requests = requests_from k.step c.args.steps.now c.from_step-steps.result.now c.from_step-steps.ensures in
    let same_answers = answers_from k.step c.args.answers.now c.from_step-answers.result.now c.from_step-answers.ensures in
    tells_behind (doubt_parts_of_steps path k.answered.rollout.book q requests) (put_finer_parts path q.flags (from_step k.step requests) (from_step k.step answers)) doubted remark c.in_ok-doubted.ensures.parts
    (subst (λ (rs : List (List ℕ)). AreBehind (put_finer_parts path q.flags rs (from_step k.step answers)) doubted remark) same_requests
    (subst (λ (xs : List Answer). AreBehind (put_finer_parts path q.flags rest xs) doubted remark) same_answers c.in-Ok.ensures.beside))

pub returns-in_err-doubted-clause-exact : goal.returns-in_err-doubted-clause-exact
returns-in_err-doubted-clause-exact g c =
    let k = keeping_view c.args.asked.now in
    let q = question_view c.args.question.now in
    let requests = requests_view c.args.steps.now in
    let answers = map planned_view c.args.answers.now in
    let is : c.from_residual.result ≡ Err c.in_err-doubted.field-0.0 = search rules in
    not_noted (is_finer_put q.flags (from_step k.step requests) (from_step k.step answers)) (settle call.Apply k.answered.rollout.strict (doubt_of_steps q requests)) c.in_err-doubted.field-0.0 c.from_residual.result is c.in_err-doubted.ensures.exact
