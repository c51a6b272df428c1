use Rattle.std.proofs.Common.{◌≡◌, Err, inl, rules, unwrap_or}
use Rattle.flagops_files.specs.Question.{question_view}
use Rattle.flagops_rollouts.specs.Refusal.{is_file_fault}
use Rattle.flagops_files.specs.Told.{by_kind}
use Rattle.flagops_pictures.specs.Diagnostics.{drawn_subjects}
use Rattle.flagops_pictures.specs.Words.{planning_view}
use Rattle.flagops_pictures.proofs.Planned.{asked_of, failed_behind, kept_behind, left_behind, unasked}
use Rattle.flagops_pictures.proofs.Naming.{in_planned, in_question}
use Rattle.flagops_rollouts.proofs.Said.{nothing_said, plan_said_at}
use Rattle.flagops_rollouts.specs.Remarks.{TellsPlanAt}
use Rattle.flagops_pictures.proofs.planning.outcome.Goals as goal

pub returns-clause-exact : goal.returns-clause-exact
returns-clause-exact g c =
    asked_of (planning_view c.args.asked.now) (g.F.FileSet.holding c.args.files.now) (g.F.FileSet.holding c.load_question.new.files) (g.F.FileSet.holding c.planned.new.files) (question_view c.in_ok-question.question) c.planned.result
    c.load_question.ensures.kept c.in_ok-question.ensures.exact
    c.planned.ensures.exact

pub returns-in_err-question-clause-exact : goal.returns-in_err-question-clause-exact
returns-in_err-question-clause-exact g c =
    let is : c.from_residual.result ≡ Err c.in_err-question.field-0.0 = search rules in
    unasked (planning_view c.args.asked.now) (g.F.FileSet.holding c.args.files.now) (g.F.FileSet.holding c.load_question.new.files) c.in_err-question.field-0.0 c.from_residual.result is c.in_err-question.ensures.exact c.load_question.ensures.kept

pub returns-in_err-question-clause-left : goal.returns-in_err-question-clause-left
returns-in_err-question-clause-left g c = inl c.load_question.ensures.kept

pub returns-clause-left : goal.returns-clause-left
returns-clause-left g c =
    left_behind (g.F.FileSet.holding c.args.files.now) (g.F.FileSet.holding c.load_question.new.files) (g.F.FileSet.holding c.planned.new.files) c.args.asked.now.picture.now c.load_question.ensures.kept c.planned.ensures.left

pub returns-clause-kept : goal.returns-clause-kept
returns-clause-kept g c =
    kept_behind c.planned.result (g.F.FileSet.holding c.args.files.now) (g.F.FileSet.holding c.load_question.new.files) (g.F.FileSet.holding c.planned.new.files) c.load_question.ensures.kept c.planned.ensures.kept

pub returns-clause-failed : goal.returns-clause-failed
returns-clause-failed g c =
    failed_behind (g.F.FileSet.has_failed c.args.files.now) (g.F.FileSet.has_failed c.load_question.new.files) (g.F.FileSet.has_failed c.planned.new.files) (is_file_fault c.planned.result)
    c.in_ok-question.ensures.failed c.planned.ensures.failed

pub returns-clause-names : goal.returns-clause-names
returns-clause-names g c =
    in_planned (planning_view c.args.asked.now) (question_view c.in_ok-question.question) _ c.planned.result c.in_ok-question.ensures.exact c.planned.ensures.names

pub returns-in_err-question-clause-names : goal.returns-in_err-question-clause-names
returns-in_err-question-clause-names g c =
    let p = planning_view c.args.asked.now in
    let is : c.from_residual.result ≡ Err c.in_err-question.field-0.0 = search rules in
    in_question p.floats p.document p.request p.book (λ at. by_kind (drawn_subjects p)) _ c.from_residual.result c.in_err-question.field-0.0 is c.in_err-question.ensures.names

pub returns-clause-parts : goal.returns-clause-parts
returns-clause-parts g c =
    let p = planning_view c.args.asked.now in
    plan_said_at p.floats p.document p.request p.book (question_view c.in_ok-question.question) (unwrap_or p.refine 1) p.explain (g.F.FileSet.holding c.args.files.now) c.planned.result c.in_ok-question.ensures.exact c.planned.ensures.parts

pub returns-in_err-question-clause-parts : goal.returns-in_err-question-clause-parts
returns-in_err-question-clause-parts g c =
    let p = planning_view c.args.asked.now in
    let is : c.from_residual.result ≡ Err c.in_err-question.field-0.0 = search rules in
    nothing_said (λ at o. TellsPlanAt p.floats at p.document p.request p.book (unwrap_or p.refine 1) p.explain o.text.items o.remark) (g.F.FileSet.holding c.args.files.now) c.in_err-question.field-0.0 c.from_residual.result is
