use Rattle.std.proofs.Common.{ap, is_some, map, option_map, unwrap_or}
use Rattle.flagops_files.specs.Question.{question_view}
use Rattle.flagops_shell.specs.declared.outcome.Outcome.{Outcome}
use Rattle.plan_text.specs.Answer.{planned_view}
use Rattle.ramp.specs.Steps.{requests_view}
use Rattle.flagops_rollouts.specs.Beside.{noted_with}
use Rattle.flagops_rollouts.specs.Doubts.{NamesDoubted}
use Rattle.flagops_rollouts.proofs.Parts.{noted_so, says_result, tells_behind, tells_result}
use Rattle.flagops_ramps.specs.Doubts.{doubt_of_steps, doubt_parts_of_steps, settle}
use Rattle.flagops_ramps.specs.Ramp.{is_finer_ramp, report_ramp}
use Rattle.flagops_ramps.specs.Remarks.{ramp_finer_parts, ramp_parts}
use Rattle.flagops_ramps.specs.Words.{ramping_view}
use Rattle.flagops_ramps.specs.declared.refusal.StepCall.TheVariants as call
use Rattle.flagops_ramps.proofs.Besides.{refused_so, told_so}
use Rattle.flagops_ramps.proofs.ramping.told.Goals as goal

pub returns-in-Ok-clause-exact : goal.returns-in-Ok-clause-exact
returns-in-Ok-clause-exact g c =
    let answers = map planned_view c.args.answers.now in
    let finer = is_finer_ramp (unwrap_or (option_map (λ m. m.number) c.args.asked.now.refine) 1) answers in
    let settled = settle call.Ramp c.args.asked.now.strict (doubt_of_steps (question_view c.args.question.now) (requests_view c.args.steps.now)) in
    told_so (noted_with finer settled) (is_some c.noted.result) (report_ramp answers) c.printed.result (noted_so finer settled (is_some c.in-Ok.doubted) (is_some c.noted.result) c.in-Ok.ensures.exact c.noted.ensures.told) c.printed.ensures.exact

pub returns-in-Err-clause-exact : goal.returns-in-Err-clause-exact
returns-in-Err-clause-exact g c =
    let answers = map planned_view c.args.answers.now in
    let finer = is_finer_ramp (unwrap_or (option_map (λ m. m.number) c.args.asked.now.refine) 1) answers in
    let settled = settle call.Ramp c.args.asked.now.strict (doubt_of_steps (question_view c.args.question.now) (requests_view c.args.steps.now)) in
    refused_so (noted_with finer settled) (report_ramp answers) c.in-Err.told (λ wanted. ap (noted_with finer) (c.in-Err.ensures.exact wanted))

pub returns-in-Ok-clause-parts : goal.returns-in-Ok-clause-parts
returns-in-Ok-clause-parts g c =
    let a = ramping_view c.args.asked.now in
    let q = question_view c.args.question.now in
    let requests = requests_view c.args.steps.now in
    let answers = map planned_view c.args.answers.now in
    let tells = tells_behind (doubt_parts_of_steps a.steps a.book q requests) (ramp_finer_parts a.steps (unwrap_or a.refine 1) answers) c.in-Ok.doubted c.noted.result c.in-Ok.ensures.parts c.noted.ensures.beside in
    tells_result (λ (o : Outcome). o.remark) (ramp_parts a q requests answers) c.noted.result c.printed.result tells c.printed.ensures.remark

pub returns-in-Ok-clause-notes : goal.returns-in-Ok-clause-notes
returns-in-Ok-clause-notes g c =
    let a = ramping_view c.args.asked.now in
    says_result (λ (o : Outcome). o.remark) (NamesDoubted a.steps a.book) c.noted.result c.printed.result (c.noted.ensures.notes c.in-Ok.ensures.notes) c.printed.ensures.remark
