use Rattle.flag_defs.specs.Flags.{flags_view}
use Rattle.flag_defs.specs.Floats.{floats_view}
use Rattle.plan_text.specs.Answer.{planned_view}
use Rattle.flagops_rollouts.proofs.Said.{applied_said_at, nothing_said}
use Rattle.flagops_rollouts.proofs.Verdicts.{applied}
use Rattle.std.proofs.Common.{◌≡◌, ◌∙◌, [], ◌∷◌, Err, ap}
use Rattle.std.proofs.lemmas.Result.{err_from_is_err_and}
use Rattle.flagops_files.specs.Told.{attempt, file}
use Rattle.flagops_rollouts.proofs.Attempted.{at_first, behind_plan, document_read, document_refused, plan_refused}
use Rattle.flagops_rollouts.specs.Attempts.{Attempts, plan_read}
use Rattle.flagops_rollouts.specs.Loaded.{IsDocumentAt}
use Rattle.flagops_rollouts.specs.Remarks.{TellsAppliedAt}
use Rattle.flagops_rollouts.specs.Subjects.{applied_subjects}
use Rattle.flagops_shell.specs.Files.{Holding}
use Rattle.flagops_rollouts.proofs.applying.apply.Goals as goal

pub returns-clause-exact : goal.returns-clause-exact
returns-clause-exact g c =
    applied c.args.floats c.args.document.now c.args.plan.now c.args.key.now c.args.site c.args.strict c.in_ok-loaded.loaded.bytes.items (flags_view c.in_ok-loaded.loaded.flags) (floats_view c.in_ok-loaded.loaded.flags) (planned_view c.in_ok-planned.planned) _ _ c.applied.result
    c.in_ok-loaded.ensures.floats c.load_document.ensures.kept
    c.in_ok-loaded.ensures.exact c.in_ok-loaded.ensures.bytes c.in_ok-planned.ensures.exact c.applied.ensures.exact c.applied.ensures.local

pub returns-clause-parts : goal.returns-clause-parts
returns-clause-parts g c =
    applied_said_at c.args.floats c.args.document.now c.in_ok-loaded.loaded.bytes.items (flags_view c.in_ok-loaded.loaded.flags) c.args.key.now c.args.site c.args.plan.now (planned_view c.in_ok-planned.planned) (g.F.FileSet.holding c.args.files.now)
    (g.F.FileSet.holding c.load_document.new.files) c.applied.result c.load_document.ensures.kept c.in_ok-loaded.ensures.bytes c.in_ok-loaded.ensures.exact c.in_ok-planned.ensures.exact c.applied.ensures.parts

pub returns-in_err-planned-clause-parts : goal.returns-in_err-planned-clause-parts
returns-in_err-planned-clause-parts g c =
    let p = err_from_is_err_and c.from_residual-in_err-planned.result c.from_residual-in_err-planned.ensures.1 in
    let is : c.from_residual-in_err-planned.result ≡ Err c.in_err-planned.field-0.0 = p.1 ∙ ap Err p.2 in
    nothing_said (λ at o. TellsAppliedAt c.args.floats at c.args.document.now c.args.plan.now c.args.key.now c.args.site o.remark) (g.F.FileSet.holding c.args.files.now) c.in_err-planned.field-0.0 c.from_residual-in_err-planned.result is

pub returns-in_err-loaded-clause-first : goal.returns-in_err-loaded-clause-first
returns-in_err-loaded-clause-first g c =
    let document = c.args.document.now in
    let first : Holding → Attempts = λ at. attempt (file document) (IsDocumentAt c.args.floats at document) ∷ [] in
    let p = err_from_is_err_and c.from_residual.result c.from_residual.ensures.1 in
    let is : c.from_residual.result ≡ Err c.in_err-loaded.field-0.0 = p.1 ∙ ap Err p.2 in
    at_first (g.F.FileSet.holding c.args.files.now) first (λ at. plan_read at c.args.plan.now (applied_subjects document c.args.plan.now)) c.in_err-loaded.field-0.0 c.from_residual.result is
    (document_refused c.args.floats document c.in_err-loaded.field-0.0 (g.F.FileSet.holding c.args.files.now) c.in_err-loaded.ensures.exact c.in_err-loaded.ensures.names)

pub returns-in_err-planned-clause-first : goal.returns-in_err-planned-clause-first
returns-in_err-planned-clause-first g c =
    let document = c.args.document.now in
    let old = g.F.FileSet.holding c.args.files.now in
    let first : Holding → Attempts = λ at. attempt (file document) (IsDocumentAt c.args.floats at document) ∷ [] in
    let p = err_from_is_err_and c.from_residual-in_err-planned.result c.from_residual-in_err-planned.ensures.1 in
    let is : c.from_residual-in_err-planned.result ≡ Err c.in_err-planned.field-0.0 = p.1 ∙ ap Err p.2 in
    plan_refused old first _ c.load_document.ensures.kept c.args.plan.now (applied_subjects document c.args.plan.now) c.in_err-planned.field-0.0 c.from_residual-in_err-planned.result is
    (document_read c.args.floats document (flags_view c.in_ok-loaded.loaded.flags) old c.in_ok-loaded.ensures.exact) c.in_err-planned.ensures.exact c.in_err-planned.ensures.names

pub returns-clause-first : goal.returns-clause-first
returns-clause-first g c =
    let document = c.args.document.now in
    let old = g.F.FileSet.holding c.args.files.now in
    let first : Holding → Attempts = λ at. attempt (file document) (IsDocumentAt c.args.floats at document) ∷ [] in
    behind_plan old first _ c.load_document.ensures.kept c.args.plan.now (applied_subjects document c.args.plan.now) (planned_view c.in_ok-planned.planned) c.applied.result
    (document_read c.args.floats document (flags_view c.in_ok-loaded.loaded.flags) old c.in_ok-loaded.ensures.exact) c.in_ok-planned.ensures.exact c.applied.ensures.names
