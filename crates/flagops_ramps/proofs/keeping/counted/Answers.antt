use Rattle.std.proofs.Common.{◌≡◌, Err, is_some, map, refl, rules}
use Rattle.flagops_files.specs.Question.{question_view}
use Rattle.flagops_rollouts.specs.Keep.{kept_view}
use Rattle.plan_text.specs.Answer.{planned_view}
use Rattle.ramp.specs.Steps.{requests_view}
use Rattle.flagops_shell.specs.declared.outcome.Outcome.{Outcome}
use Rattle.flagops_rollouts.proofs.Parts.{tells_result}
use Rattle.flagops_ramps.specs.Remarks.{keep_parts}
use Rattle.flagops_ramps.specs.Words.{keeping_view}
use Rattle.flagops_ramps.proofs.Kept.{over_doubted, over_put, over_unkept}
use Rattle.flagops_ramps.proofs.keeping.counted.Goals as goal

pub returns-in_err-text-clause-exact : goal.returns-in_err-text-clause-exact
returns-in_err-text-clause-exact g c =
    let files = g.F.FileSet.holding c.args.files.now in
    let is : c.from_residual.result ≡ Err c.in_err-text.field-0.0 = search rules in
    over_unkept (keeping_view c.args.asked.now) c.args.question.now.document.items (question_view c.args.question.now) (map planned_view c.args.answers.now) (requests_view c.args.steps.now) files files c.in_err-text.field-0.0
    c.from_residual.result is refl c.in_err-text.ensures.exact

pub returns-in_err-remark-clause-exact : goal.returns-in_err-remark-clause-exact
returns-in_err-remark-clause-exact g c =
    let files = g.F.FileSet.holding c.args.files.now in
    let is : c.from_residual-in_err-remark.result ≡ Err c.in_err-remark.field-0.0 = search rules in
    over_doubted (keeping_view c.args.asked.now) c.args.question.now.document.items (question_view c.args.question.now) (map planned_view c.args.answers.now) (requests_view c.args.steps.now) files files (kept_view c.in_ok-text.text)
    c.in_err-remark.field-0.0 c.from_residual-in_err-remark.result is refl c.in_ok-text.ensures.exact c.in_err-remark.ensures.exact

pub returns-clause-exact : goal.returns-clause-exact
returns-clause-exact g c =
    over_put (keeping_view c.args.asked.now) c.args.question.now.document.items (question_view c.args.question.now) (map planned_view c.args.answers.now) (requests_view c.args.steps.now) _ _ (kept_view c.in_ok-text.text) (is_some c.in_ok-remark.remark)
    c.put.result c.in_ok-remark.ensures.exact c.in_ok-text.ensures.exact c.put.ensures.exact

pub returns-clause-parts : goal.returns-clause-parts
returns-clause-parts g c =
    let parts = keep_parts (keeping_view c.args.asked.now) (question_view c.args.question.now) (requests_view c.args.steps.now) (map planned_view c.args.answers.now) in
    tells_result (λ (o : Outcome). o.remark) parts c.in_ok-remark.remark c.put.result c.in_ok-remark.ensures.parts c.put.ensures.remark
