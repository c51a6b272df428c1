use Rattle.std.proofs.Common.{◌≡◌, ◌∙◌, Err, ap, subst, List, ℕ}
use Rattle.std.proofs.lemmas.Result.{err_from_is_err_and}
use Rattle.flag_defs.specs.Flags.{flags_view}
use Rattle.note_streams.specs.LogLines.{files_view}
use Rattle.control_answers.specs.Plan.{IsPlanOn}
use Rattle.control_answers.specs.Snapshot.{snapshot_view}
use Rattle.control_answers.specs.Target.{target_of, target_view}
use Rattle.control_answers.specs.Turns.{Gives, OfFiles}
use Rattle.control_answers.specs.View.{bytes_view}
use Rattle.control_answers.proofs.Turns.{not_asked, with_target}
use Rattle.control_answers.proofs.planning.plan_answer.Goals as goal

pub returns-in_err-request-clause-exact : goal.returns-in_err-request-clause-exact
returns-in_err-request-clause-exact c =
    let e = c.in_err-request.field-0.0 in
    let r = c.from_residual.result in
    let p = err_from_is_err_and r c.from_residual.ensures.1 in
    let is : r ≡ Err e = p.1 ∙ ap Err p.2 in
    not_asked bytes_view (flags_view c.args.snapshot.now.flags.now) c.args.request.items (λ target. OfFiles (files_view c.args.files.now) target (IsPlanOn (snapshot_view c.args.snapshot.now) c.args.request.items)) e r is c.in_err-request.ensures.exact

pub returns-clause-exact : goal.returns-clause-exact
returns-clause-exact c =
    let s = snapshot_view c.args.snapshot.now in
    let target = target_view c.in_ok-request.field-0.target in
    let r = c.plan_recorded.result in
    with_target bytes_view (target_of (flags_view c.args.snapshot.now.flags.now) c.args.request.items) (λ target. OfFiles (files_view c.args.files.now) target (IsPlanOn s c.args.request.items)) target r c.in_ok-request.ensures.exact.1
    (subst (λ (x : List ℕ). Gives bytes_view (OfFiles (files_view c.args.files.now) target (IsPlanOn s x)) r) c.in_ok-request.ensures.exact.0 c.plan_recorded.ensures)
