use Rattle.std.proofs.Common.{◌≡◌, ◌∙◌, Err, ap, option_map}
use Rattle.std.proofs.lemmas.Result.{err_from_is_err_and}
use Rattle.plan_text.specs.Answer.{planned_view}
use Rattle.flagops_files.specs.Question.{question_view}
use Rattle.flagops_rollouts.proofs.Verdicts.{failed_second, unanswered, verified}
use Rattle.std.specs.Prelude.{◌∷◌}
use Rattle.flagops_files.specs.Told.{file}
use Rattle.flagops_rollouts.proofs.Attempted.{at_first, behind_plan, plan_refused, question_read}
use Rattle.flagops_rollouts.specs.Attempts.{plan_read, question_attempts}
use Rattle.flagops_rollouts.specs.Doubts.{doubt_subjects}
use Rattle.flagops_rollouts.specs.Refusal.{Subjects}
use Rattle.flagops_rollouts.specs.Subjects.{is_of_answer, is_of_request}
use Rattle.flagops_rollouts.proofs.Said.{doubts_said_at, nothing_said}
use Rattle.flagops_rollouts.specs.Remarks.{TellsDoubtsAt}
use Rattle.flagops_rollouts.proofs.verifying.verify.Goals as goal

pub returns-clause-exact : goal.returns-clause-exact
returns-clause-exact g c =
    verified c.args.floats c.args.document.now c.args.request.now c.args.book.now c.args.plan.now (option_map (λ m. m.number) c.args.refine) c.args.strict c.args.json (question_view c.in_ok-question.question)
    (planned_view c.in_ok-planned.planned) _ _ c.verdict-outcome.result c.load_question.ensures.kept c.in_ok-question.ensures.exact c.in_ok-planned.ensures.exact c.verdict-outcome.ensures.exact

pub returns-in_err-planned-clause-exact : goal.returns-in_err-planned-clause-exact
returns-in_err-planned-clause-exact g c =
    let p = err_from_is_err_and c.from_residual-in_err-planned.result c.from_residual-in_err-planned.ensures.1 in
    let is : c.from_residual-in_err-planned.result ≡ Err c.in_err-planned.field-0.0 = p.1 ∙ ap Err p.2 in
    unanswered c.args.floats c.args.document.now c.args.request.now c.args.book.now c.args.plan.now (option_map (λ m. m.number) c.args.refine) c.args.strict c.args.json (question_view c.in_ok-question.question) c.in_err-planned.field-0.0 _ _
    c.from_residual-in_err-planned.result is c.load_question.ensures.kept c.in_ok-question.ensures.exact c.in_err-planned.ensures.exact

pub returns-in_err-planned-clause-failed : goal.returns-in_err-planned-clause-failed
returns-in_err-planned-clause-failed g c =
    let p = err_from_is_err_and c.from_residual-in_err-planned.result c.from_residual-in_err-planned.ensures.1 in
    let is : c.from_residual-in_err-planned.result ≡ Err c.in_err-planned.field-0.0 = p.1 ∙ ap Err p.2 in
    failed_second _ _ _ c.in_err-planned.field-0.0 c.from_residual-in_err-planned.result is c.in_ok-question.ensures.failed c.in_err-planned.ensures.failed

pub returns-in_err-question-clause-first : goal.returns-in_err-question-clause-first
returns-in_err-question-clause-first g c =
    let document = c.args.document.now in
    let request = c.args.request.now in
    let book = c.args.book.now in
    let made : Subjects = (file request, is_of_request) ∷ (file c.args.plan.now, is_of_answer) ∷ doubt_subjects request book in
    let p = err_from_is_err_and c.from_residual.result c.from_residual.ensures.1 in
    let is : c.from_residual.result ≡ Err c.in_err-question.field-0.0 = p.1 ∙ ap Err p.2 in
    at_first (g.F.FileSet.holding c.args.files.now) (λ at. question_attempts c.args.floats at document request book) (λ at. plan_read at c.args.plan.now made) c.in_err-question.field-0.0 c.from_residual.result is
    c.in_err-question.ensures.first

pub returns-in_err-planned-clause-first : goal.returns-in_err-planned-clause-first
returns-in_err-planned-clause-first g c =
    let document = c.args.document.now in
    let request = c.args.request.now in
    let book = c.args.book.now in
    let old = g.F.FileSet.holding c.args.files.now in
    let made : Subjects = (file request, is_of_request) ∷ (file c.args.plan.now, is_of_answer) ∷ doubt_subjects request book in
    let p = err_from_is_err_and c.from_residual-in_err-planned.result c.from_residual-in_err-planned.ensures.1 in
    let is : c.from_residual-in_err-planned.result ≡ Err c.in_err-planned.field-0.0 = p.1 ∙ ap Err p.2 in
    plan_refused old (λ at. question_attempts c.args.floats at document request book) _ c.load_question.ensures.kept c.args.plan.now made c.in_err-planned.field-0.0 c.from_residual-in_err-planned.result is
    (question_read c.args.floats document request book (question_view c.in_ok-question.question) old c.in_ok-question.ensures.exact) c.in_err-planned.ensures.exact c.in_err-planned.ensures.names

pub returns-clause-first : goal.returns-clause-first
returns-clause-first g c =
    let document = c.args.document.now in
    let request = c.args.request.now in
    let book = c.args.book.now in
    let old = g.F.FileSet.holding c.args.files.now in
    let made : Subjects = (file request, is_of_request) ∷ (file c.args.plan.now, is_of_answer) ∷ doubt_subjects request book in
    behind_plan old (λ at. question_attempts c.args.floats at document request book) _ c.load_question.ensures.kept c.args.plan.now made (planned_view c.in_ok-planned.planned) c.verdict-outcome.result
    (question_read c.args.floats document request book (question_view c.in_ok-question.question) old c.in_ok-question.ensures.exact) c.in_ok-planned.ensures.exact c.verdict-outcome.ensures.names

pub returns-clause-parts : goal.returns-clause-parts
returns-clause-parts g c =
    doubts_said_at c.args.floats c.args.document.now c.args.request.now c.args.book.now (question_view c.in_ok-question.question) (g.F.FileSet.holding c.args.files.now) c.verdict-outcome.result c.in_ok-question.ensures.exact c.verdict-outcome.ensures.parts

pub returns-in_err-planned-clause-parts : goal.returns-in_err-planned-clause-parts
returns-in_err-planned-clause-parts g c =
    let p = err_from_is_err_and c.from_residual-in_err-planned.result c.from_residual-in_err-planned.ensures.1 in
    let is : c.from_residual-in_err-planned.result ≡ Err c.in_err-planned.field-0.0 = p.1 ∙ ap Err p.2 in
    nothing_said (λ at o. TellsDoubtsAt c.args.floats at c.args.document.now c.args.request.now c.args.book.now o.remark) (g.F.FileSet.holding c.args.files.now) c.in_err-planned.field-0.0 c.from_residual-in_err-planned.result is
