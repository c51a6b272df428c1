use Rattle.std.proofs.Common.{◌≡◌, ◌∙◌, Err, Result, ap, subst, sym}
use Rattle.std.proofs.lemmas.Result.{err_from_is_err_and}
use Rattle.plan_text.specs.Answer.{planned_view}
use Rattle.flagops_files.specs.Question.{question_view}
use Rattle.flagops_rollouts.proofs.Said.{doubts_said_at, nothing_said}
use Rattle.flagops_rollouts.proofs.Verdicts.{failed_second}
use Rattle.flagops_rollouts.specs.Attempts.{plan_read}
use Rattle.flagops_rollouts.specs.Refusal.{ComesFrom, Refused, call_of}
use Rattle.flagops_rollouts.specs.Remarks.{TellsDoubtsAt}
use Rattle.flagops_shell.specs.declared.outcome.Outcome.{Outcome}
use Rattle.flagops_pictures.specs.Diagnostics.{checked_subjects}
use Rattle.flagops_pictures.specs.Pictured.{picture_calls}
use Rattle.flagops_pictures.specs.Words.{picturing_view}
use Rattle.flagops_pictures.proofs.Pictures.{no_failure, pictured, plan_comes, unanswered}
use Rattle.flagops_pictures.proofs.Naming.{in_check, in_plan, in_question}
use Rattle.flagops_pictures.proofs.command.outcome.Goals as goal

pub returns-clause-exact : goal.returns-clause-exact
returns-clause-exact g c =
    pictured (picturing_view c.args.asked.now) (question_view c.in_ok-question.question) (planned_view c.in_ok-planned.planned) _ _ c.pictured.result c.load_question.ensures.kept c.in_ok-question.ensures.exact c.in_ok-planned.ensures.exact c.pictured.ensures.exact

pub returns-clause-failed : goal.returns-clause-failed
returns-clause-failed g c = no_failure _ _ _ _ c.in_ok-question.ensures.failed c.in_ok-planned.ensures.failed c.pictured.ensures.read

pub returns-clause-names : goal.returns-clause-names
returns-clause-names g c =
    in_check (picturing_view c.args.asked.now) (question_view c.in_ok-question.question) (planned_view c.in_ok-planned.planned) _ _ c.pictured.result c.load_question.ensures.kept c.in_ok-question.ensures.exact c.in_ok-planned.ensures.exact c.pictured.ensures.names

-- ---- a file of the question that is refused

pub returns-in_err-question-clause-names : goal.returns-in_err-question-clause-names
returns-in_err-question-clause-names g c =
    let a = picturing_view c.args.asked.now in
    let p = err_from_is_err_and c.from_residual.result c.from_residual.ensures.1 in
    let is : c.from_residual.result ≡ Err c.in_err-question.field-0.0 = p.1 ∙ ap Err p.2 in
    in_question a.floats a.document a.request a.book (λ at. plan_read at a.plan (checked_subjects a.request a.plan)) _ c.from_residual.result c.in_err-question.field-0.0 is c.in_err-question.ensures.names

-- ---- a plan file that is refused

pub returns-in_err-planned-clause-exact : goal.returns-in_err-planned-clause-exact
returns-in_err-planned-clause-exact g c =
    let p = err_from_is_err_and c.from_residual-in_err-planned.result c.from_residual-in_err-planned.ensures.1 in
    let is : c.from_residual-in_err-planned.result ≡ Err c.in_err-planned.field-0.0 = p.1 ∙ ap Err p.2 in
    unanswered (picturing_view c.args.asked.now) (question_view c.in_ok-question.question) c.in_err-planned.field-0.0 _ _ c.from_residual-in_err-planned.result is c.load_question.ensures.kept c.in_ok-question.ensures.exact c.in_err-planned.ensures.exact

pub returns-in_err-planned-clause-calls : goal.returns-in_err-planned-clause-calls
returns-in_err-planned-clause-calls g c =
    let p = err_from_is_err_and c.from_residual-in_err-planned.result c.from_residual-in_err-planned.ensures.1 in
    let is : c.from_residual-in_err-planned.result ≡ Err c.in_err-planned.field-0.0 = p.1 ∙ ap Err p.2 in
    subst (λ (r : Result Outcome Refused). ComesFrom picture_calls r) (sym is) (plan_comes (call_of c.in_err-planned.field-0.0.refusal) c.in_err-planned.ensures.calls)

pub returns-in_err-planned-clause-failed : goal.returns-in_err-planned-clause-failed
returns-in_err-planned-clause-failed g c =
    let p = err_from_is_err_and c.from_residual-in_err-planned.result c.from_residual-in_err-planned.ensures.1 in
    let is : c.from_residual-in_err-planned.result ≡ Err c.in_err-planned.field-0.0 = p.1 ∙ ap Err p.2 in
    failed_second _ _ _ c.in_err-planned.field-0.0 c.from_residual-in_err-planned.result is c.in_ok-question.ensures.failed c.in_err-planned.ensures.failed

pub returns-in_err-planned-clause-names : goal.returns-in_err-planned-clause-names
returns-in_err-planned-clause-names g c =
    let p = err_from_is_err_and c.from_residual-in_err-planned.result c.from_residual-in_err-planned.ensures.1 in
    let is : c.from_residual-in_err-planned.result ≡ Err c.in_err-planned.field-0.0 = p.1 ∙ ap Err p.2 in
    in_plan (picturing_view c.args.asked.now) (question_view c.in_ok-question.question) _ _ c.from_residual-in_err-planned.result c.in_err-planned.field-0.0 is c.load_question.ensures.kept c.in_ok-question.ensures.exact c.in_err-planned.ensures.exact
    c.in_err-planned.ensures.names

-- ---- what is told beside a picture

pub returns-clause-parts : goal.returns-clause-parts
returns-clause-parts g c =
    let a = picturing_view c.args.asked.now in
    doubts_said_at a.floats a.document a.request a.book (question_view c.in_ok-question.question) (g.F.FileSet.holding c.args.files.now) c.pictured.result c.in_ok-question.ensures.exact c.pictured.ensures.parts

pub returns-in_err-planned-clause-parts : goal.returns-in_err-planned-clause-parts
returns-in_err-planned-clause-parts g c =
    let a = picturing_view c.args.asked.now in
    let p = err_from_is_err_and c.from_residual-in_err-planned.result c.from_residual-in_err-planned.ensures.1 in
    let is : c.from_residual-in_err-planned.result ≡ Err c.in_err-planned.field-0.0 = p.1 ∙ ap Err p.2 in
    nothing_said (λ at o. TellsDoubtsAt a.floats at a.document a.request a.book o.remark) (g.F.FileSet.holding c.args.files.now) c.in_err-planned.field-0.0 c.from_residual-in_err-planned.result is

pub returns-in_err-question-clause-parts : goal.returns-in_err-question-clause-parts
returns-in_err-question-clause-parts g c =
    let a = picturing_view c.args.asked.now in
    let p = err_from_is_err_and c.from_residual.result c.from_residual.ensures.1 in
    let is : c.from_residual.result ≡ Err c.in_err-question.field-0.0 = p.1 ∙ ap Err p.2 in
    nothing_said (λ at o. TellsDoubtsAt a.floats at a.document a.request a.book o.remark) (g.F.FileSet.holding c.args.files.now) c.in_err-question.field-0.0 c.from_residual.result is
