use Rattle.std.proofs.Common.{option_map, unwrap_or, ◌≡◌, ◌∙◌, ◌∷◌, Err, ap}
use Rattle.flagops_files.specs.Question.{question_view}
use Rattle.flagops_rollouts.proofs.Edits.{planned_at}
use Rattle.flagops_rollouts.proofs.Verdicts.{planned}
use Rattle.std.proofs.lemmas.Result.{err_from_is_err_and}
use Rattle.flagops_files.specs.Told.{by_kind, file, word}
use Rattle.flagops_rollouts.proofs.Attempted.{at_first, behind, question_read}
use Rattle.flagops_rollouts.specs.Attempts.{question_attempts}
use Rattle.flagops_rollouts.specs.Doubts.{doubt_subjects}
use Rattle.flagops_rollouts.specs.Refusal.{Subjects}
use Rattle.flagops_rollouts.specs.Subjects.{is_of_request, is_of_size, the_plan}
use Rattle.flagops_rollouts.proofs.Said.{plan_said_at}
use Rattle.flagops_rollouts.proofs.planning.plan.Goals as goal

pub returns-clause-exact : goal.returns-clause-exact
returns-clause-exact g c =
    planned c.args.floats c.args.document.now c.args.request.now c.args.book.now (option_map (λ m. m.number) c.args.refine) c.args.strict c.args.explain (question_view c.in_ok-question.question) _ c.answer-outcome.result
    c.in_ok-question.ensures.exact c.answer-outcome.ensures.exact

pub returns-clause-edit : goal.returns-clause-edit
returns-clause-edit g c =
    planned_at c.args.floats c.args.document.now c.args.request.now c.args.book.now (unwrap_or (option_map (λ m. m.number) c.args.refine) 1) (question_view c.in_ok-question.question) c.args.explain (g.F.FileSet.holding c.args.files.now) c.answer-outcome.result
    c.in_ok-question.ensures.exact c.answer-outcome.ensures.edit

pub returns-in_err-question-clause-first : goal.returns-in_err-question-clause-first
returns-in_err-question-clause-first g c =
    let request = c.args.request.now in
    let book = c.args.book.now in
    let made : Subjects = (file request, is_of_request) ∷ (word the_plan, is_of_size) ∷ doubt_subjects request book in
    let p = err_from_is_err_and c.from_residual.result c.from_residual.ensures.1 in
    let is : c.from_residual.result ≡ Err c.in_err-question.field-0.0 = p.1 ∙ ap Err p.2 in
    at_first (g.F.FileSet.holding c.args.files.now) (λ at. question_attempts c.args.floats at c.args.document.now request book) (λ at. by_kind made) c.in_err-question.field-0.0 c.from_residual.result is c.in_err-question.ensures.first

pub returns-clause-first : goal.returns-clause-first
returns-clause-first g c =
    let document = c.args.document.now in
    let request = c.args.request.now in
    let book = c.args.book.now in
    let old = g.F.FileSet.holding c.args.files.now in
    let made : Subjects = (file request, is_of_request) ∷ (word the_plan, is_of_size) ∷ doubt_subjects request book in
    behind old (λ at. question_attempts c.args.floats at document request book) made c.answer-outcome.result (question_read c.args.floats document request book (question_view c.in_ok-question.question) old c.in_ok-question.ensures.exact) c.answer-outcome.ensures.names

pub returns-clause-parts : goal.returns-clause-parts
returns-clause-parts g c =
    plan_said_at c.args.floats c.args.document.now c.args.request.now c.args.book.now (question_view c.in_ok-question.question) (unwrap_or (option_map (λ m. m.number) c.args.refine) 1) c.args.explain (g.F.FileSet.holding c.args.files.now) c.answer-outcome.result
    c.in_ok-question.ensures.exact c.answer-outcome.ensures.parts
