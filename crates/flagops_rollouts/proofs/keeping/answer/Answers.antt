use Rattle.std.proofs.Common.{◌≡◌, is_some, option_map, refl, rules}
use Rattle.std.specs.Prelude.{[], ◌∷◌, Err}
use Rattle.plan_text.specs.Answer.{planned_view}
use Rattle.flagops_rollouts.specs.Keep.{kept_view}
use Rattle.flagops_files.specs.Question.{question_view}
use Rattle.flagops_rollouts.specs.Doubts.{doubt_subjects}
use Rattle.flagops_rollouts.specs.Subjects.{is_of_kept_answer, is_of_kept_document, is_of_kept_request}
use Rattle.flagops_files.specs.Told.{file}
use Rattle.flagops_rollouts.proofs.Doubting.{tells_among, tells_left}
use Rattle.flagops_rollouts.proofs.Edited.{kept_put, not_kept, not_settled}
use Rattle.flagops_shell.specs.declared.outcome.Outcome.{Outcome}
use Rattle.flagops_rollouts.specs.Remarks.{keep_parts}
use Rattle.flagops_rollouts.proofs.Parts.{tells_result}
use Rattle.flagops_rollouts.proofs.keeping.answer.Goals as goal
use Rattle.flagops_rollouts.specs.Refusal.{Subjects}

pub returns-in_err-text-clause-exact : goal.returns-in_err-text-clause-exact
returns-in_err-text-clause-exact g c =
    let files = g.F.FileSet.holding c.args.files.now in
    let is : c.from_residual.result ≡ Err c.in_err-text.field-0.0 = search rules in
    not_kept c.args.floats c.args.document.now c.args.write c.args.strict (option_map (λ m. m.number) c.args.refine) c.args.question.now.document.items (question_view c.args.question.now) (planned_view c.args.planned.now)
    files files c.in_err-text.field-0.0 c.from_residual.result is refl c.in_err-text.ensures.exact

pub returns-in_err-remark-clause-exact : goal.returns-in_err-remark-clause-exact
returns-in_err-remark-clause-exact g c =
    let files = g.F.FileSet.holding c.args.files.now in
    let told =
    not_settled c.args.floats c.args.document.now c.args.write c.args.strict (option_map (λ m. m.number) c.args.refine) c.args.question.now.document.items (question_view c.args.question.now) (planned_view c.args.planned.now)
    files files (kept_view c.in_ok-text.text) c.in_err-remark.field-0.0 refl c.in_err-remark.ensures.exact c.in_ok-text.ensures.exact in
    search rules

pub returns-clause-exact : goal.returns-clause-exact
returns-clause-exact g c =
    kept_put c.args.floats c.args.document.now c.args.write c.args.strict (option_map (λ m. m.number) c.args.refine) c.args.question.now.document.items (question_view c.args.question.now) (planned_view c.args.planned.now) _ _
    (kept_view c.in_ok-text.text) (is_some c.in_ok-remark.remark) c.put.result c.in_ok-remark.ensures.exact c.in_ok-text.ensures.exact c.put.ensures.exact

pub returns-in_err-text-clause-names : goal.returns-in_err-text-clause-names
returns-in_err-text-clause-names g c =
    let first : Subjects = (file c.args.paths.request.now, is_of_kept_request) ∷ (file c.args.paths.plan.now, is_of_kept_answer) ∷ (file c.args.document.now, is_of_kept_document) ∷ [] in
    let is : c.from_residual.result ≡ Err c.in_err-text.field-0.0 = search rules in
    tells_left first (doubt_subjects c.args.paths.request.now c.args.paths.book.now) c.in_err-text.field-0.0 c.from_residual.result is c.in_err-text.ensures.names

pub returns-clause-names : goal.returns-clause-names
returns-clause-names g c =
    let first : Subjects = (file c.args.paths.request.now, is_of_kept_request) ∷ (file c.args.paths.plan.now, is_of_kept_answer) ∷ [] in
    tells_among first (file c.args.document.now, is_of_kept_document) (doubt_subjects c.args.paths.request.now c.args.paths.book.now) c.put.result c.put.ensures.names

pub returns-clause-parts : goal.returns-clause-parts
returns-clause-parts g c =
    tells_result (λ (o : Outcome). o.remark) (keep_parts c.args.paths.request.now c.args.paths.book.now (question_view c.args.question.now) (planned_view c.args.planned.now)) c.in_ok-remark.remark c.put.result c.in_ok-remark.ensures.parts c.put.ensures.remark
