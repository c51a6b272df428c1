use Rattle.std.proofs.Common.{◌≡◌, ◌∙◌, Err, ap, inl, option_map, rules}
use Rattle.std.specs.Prelude.{◌∷◌}
use Rattle.std.proofs.lemmas.Result.{err_from_is_err_and}
use Rattle.flagops_files.specs.Told.{file}
use Rattle.flagops_rollouts.specs.Doubts.{doubt_subjects}
use Rattle.flagops_rollouts.specs.Refusal.{Subjects}
use Rattle.flagops_rollouts.specs.Subjects.{is_of_kept_answer, is_of_kept_document, is_of_kept_request}
use Rattle.flagops_rollouts.specs.Loaded.{question_subjects}
use Rattle.flagops_rollouts.proofs.Doubting.{tells_right}
use Rattle.flagops_rollouts.proofs.Verdicts.{failed_second}
use Rattle.plan_text.specs.Answer.{planned_view}
use Rattle.flagops_files.specs.Question.{question_view}
use Rattle.flagops_shell.proofs.Kept.{kept_after}
use Rattle.flagops_rollouts.proofs.Edited.{comes_so, failed_after, kept_whole, left_after, no_plan_so, no_question}
use Rattle.flagops_rollouts.proofs.Attempted.{at_first, behind_plan, plan_refused, question_read}
use Rattle.flagops_rollouts.specs.Attempts.{plan_read, question_attempts}
use Rattle.flagops_rollouts.specs.Remarks.{TellsKeptAt}
use Rattle.flagops_rollouts.proofs.Said.{kept_said_at, nothing_said}
use Rattle.flagops_rollouts.proofs.keeping.keep.Goals as goal

pub returns-in_err-question-clause-exact : goal.returns-in_err-question-clause-exact
returns-in_err-question-clause-exact g c =
    let told =
    no_question c.args.floats c.args.document.now c.args.plan.now c.args.request.now c.args.book.now c.args.write c.args.strict (option_map (λ m. m.number) c.args.refine) _ _ c.in_err-question.field-0.0 c.load_question.ensures.kept
    c.in_err-question.ensures.exact in
    search rules

pub returns-in_err-question-clause-left : goal.returns-in_err-question-clause-left
returns-in_err-question-clause-left g c = inl c.load_question.ensures.kept

pub returns-in_err-question-clause-kept : goal.returns-in_err-question-clause-kept
returns-in_err-question-clause-kept g c = inl c.load_question.ensures.kept

pub returns-in_err-planned-clause-exact : goal.returns-in_err-planned-clause-exact
returns-in_err-planned-clause-exact g c =
    let p = err_from_is_err_and c.from_residual-in_err-planned.result c.from_residual-in_err-planned.ensures.1 in
    let is : c.from_residual-in_err-planned.result ≡ Err c.in_err-planned.field-0.0 = p.1 ∙ ap Err p.2 in
    no_plan_so c.args.floats c.args.document.now c.args.plan.now c.args.request.now c.args.book.now c.args.write c.args.strict (option_map (λ m. m.number) c.args.refine) (question_view c.in_ok-question.question) _ _ _
    c.in_err-planned.field-0.0 c.from_residual-in_err-planned.result is c.load_question.ensures.kept c.load_planned.ensures.kept c.in_ok-question.ensures.exact c.in_err-planned.ensures.exact

pub returns-in_err-planned-clause-failed : goal.returns-in_err-planned-clause-failed
returns-in_err-planned-clause-failed g c =
    let p = err_from_is_err_and c.from_residual-in_err-planned.result c.from_residual-in_err-planned.ensures.1 in
    let is : c.from_residual-in_err-planned.result ≡ Err c.in_err-planned.field-0.0 = p.1 ∙ ap Err p.2 in
    failed_second _ _ _ c.in_err-planned.field-0.0 c.from_residual-in_err-planned.result is c.in_ok-question.ensures.failed c.in_err-planned.ensures.failed

pub returns-clause-calls : goal.returns-clause-calls
returns-clause-calls g c = comes_so c.answer.result c.answer.ensures.calls

pub returns-clause-names : goal.returns-clause-names
returns-clause-names g c =
    let document = c.args.document.now in
    let request = c.args.request.now in
    let book = c.args.book.now in
    let behind : Subjects = (file request, is_of_kept_request) ∷ (file c.args.plan.now, is_of_kept_answer) ∷ (file document, is_of_kept_document) ∷ doubt_subjects request book in
    tells_right (question_subjects document request book) behind c.answer.result c.answer.ensures.names

pub returns-in_err-planned-clause-left : goal.returns-in_err-planned-clause-left
returns-in_err-planned-clause-left g c = inl (c.load_planned.ensures.kept ∙ c.load_question.ensures.kept)

pub returns-in_err-planned-clause-kept : goal.returns-in_err-planned-clause-kept
returns-in_err-planned-clause-kept g c = inl (c.load_planned.ensures.kept ∙ c.load_question.ensures.kept)

pub returns-clause-exact : goal.returns-clause-exact
returns-clause-exact g c =
    kept_whole c.args.floats c.args.document.now c.args.plan.now c.args.request.now c.args.book.now c.args.write c.args.strict (option_map (λ m. m.number) c.args.refine) (question_view c.in_ok-question.question)
    c.in_ok-question.question.document.items (planned_view c.in_ok-planned.planned) _ _ _ _ c.answer.result c.load_question.ensures.kept c.load_planned.ensures.kept c.in_ok-question.ensures.exact
    c.in_ok-question.ensures.bytes c.in_ok-planned.ensures.exact c.answer.ensures.exact

pub returns-clause-failed : goal.returns-clause-failed
returns-clause-failed g c = failed_after _ _ _ _ _ c.in_ok-question.ensures.failed c.in_ok-planned.ensures.failed c.answer.ensures.failed

pub returns-clause-left : goal.returns-clause-left
returns-clause-left g c = left_after _ _ _ _ c.args.document.now c.args.write c.load_question.ensures.kept c.load_planned.ensures.kept c.answer.ensures.left

pub returns-clause-kept : goal.returns-clause-kept
returns-clause-kept g c = kept_after _ _ _ _ _ c.load_question.ensures.kept c.load_planned.ensures.kept c.answer.ensures.kept

pub returns-in_err-question-clause-first : goal.returns-in_err-question-clause-first
returns-in_err-question-clause-first g c =
    let document = c.args.document.now in
    let request = c.args.request.now in
    let book = c.args.book.now in
    let made : Subjects = (file request, is_of_kept_request) ∷ (file c.args.plan.now, is_of_kept_answer) ∷ (file document, is_of_kept_document) ∷ doubt_subjects request book in
    let p = err_from_is_err_and c.from_residual.result c.from_residual.ensures.1 in
    let is : c.from_residual.result ≡ Err c.in_err-question.field-0.0 = p.1 ∙ ap Err p.2 in
    at_first (g.F.FileSet.holding c.args.files.now) (λ at. question_attempts c.args.floats at document request book) (λ at. plan_read at c.args.plan.now made) c.in_err-question.field-0.0 c.from_residual.result is
    c.in_err-question.ensures.first

pub returns-in_err-planned-clause-first : goal.returns-in_err-planned-clause-first
returns-in_err-planned-clause-first g c =
    let document = c.args.document.now in
    let request = c.args.request.now in
    let book = c.args.book.now in
    let old = g.F.FileSet.holding c.args.files.now in
    let made : Subjects = (file request, is_of_kept_request) ∷ (file c.args.plan.now, is_of_kept_answer) ∷ (file document, is_of_kept_document) ∷ doubt_subjects request book in
    let p = err_from_is_err_and c.from_residual-in_err-planned.result c.from_residual-in_err-planned.ensures.1 in
    let is : c.from_residual-in_err-planned.result ≡ Err c.in_err-planned.field-0.0 = p.1 ∙ ap Err p.2 in
    plan_refused old (λ at. question_attempts c.args.floats at document request book) _ c.load_question.ensures.kept c.args.plan.now made c.in_err-planned.field-0.0 c.from_residual-in_err-planned.result is
    (question_read c.args.floats document request book (question_view c.in_ok-question.question) old c.in_ok-question.ensures.exact) c.in_err-planned.ensures.exact c.in_err-planned.ensures.names

pub returns-clause-first : goal.returns-clause-first
returns-clause-first g c =
    let document = c.args.document.now in
    let request = c.args.request.now in
    let book = c.args.book.now in
    let old = g.F.FileSet.holding c.args.files.now in
    let made : Subjects = (file request, is_of_kept_request) ∷ (file c.args.plan.now, is_of_kept_answer) ∷ (file document, is_of_kept_document) ∷ doubt_subjects request book in
    behind_plan old (λ at. question_attempts c.args.floats at document request book) _ c.load_question.ensures.kept c.args.plan.now made (planned_view c.in_ok-planned.planned) c.answer.result
    (question_read c.args.floats document request book (question_view c.in_ok-question.question) old c.in_ok-question.ensures.exact) c.in_ok-planned.ensures.exact c.answer.ensures.names

pub returns-clause-parts : goal.returns-clause-parts
returns-clause-parts g c =
    kept_said_at c.args.floats c.args.document.now c.args.request.now c.args.book.now (question_view c.in_ok-question.question) c.args.plan.now (planned_view c.in_ok-planned.planned) (g.F.FileSet.holding c.args.files.now) (g.F.FileSet.holding c.load_question.new.files)
    c.answer.result c.load_question.ensures.kept c.in_ok-question.ensures.exact c.in_ok-planned.ensures.exact c.answer.ensures.parts

pub returns-in_err-planned-clause-parts : goal.returns-in_err-planned-clause-parts
returns-in_err-planned-clause-parts g c =
    let p = err_from_is_err_and c.from_residual-in_err-planned.result c.from_residual-in_err-planned.ensures.1 in
    let is : c.from_residual-in_err-planned.result ≡ Err c.in_err-planned.field-0.0 = p.1 ∙ ap Err p.2 in
    nothing_said (λ at o. TellsKeptAt c.args.floats at c.args.document.now c.args.plan.now c.args.request.now c.args.book.now o.remark) (g.F.FileSet.holding c.args.files.now) c.in_err-planned.field-0.0 c.from_residual-in_err-planned.result is
