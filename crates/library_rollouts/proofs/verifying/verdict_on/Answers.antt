use Rattle.std.proofs.Common.{◌≡◌, ◌∙◌, Err, ap}
use Rattle.std.proofs.lemmas.Result.{err_from_is_err_and}
use Rattle.flag_defs.specs.Flags.{flags_view}
use Rattle.plan_text.specs.Answer.{planned_view}
use Rattle.library_rollouts.specs.Refusal.{of_verdict}
use Rattle.library_rollouts.proofs.Planned.{right, wrong}
use Rattle.library_rollouts.specs.View.{right_view}
use Rattle.library_rollouts.proofs.verifying.verdict_on.Goals as goal

pub returns-in_err-verify_tally : goal.returns-in_err-verify_tally
returns-in_err-verify_tally c =
    let f = c.in_err-verify_tally.field-0.0 in
    let p = err_from_is_err_and c.from_residual.result c.from_residual.ensures.1 in
    let is : c.from_residual.result ≡ Err (of_verdict f) = p.1 ∙ ap Err p.2 in
    wrong (flags_view c.args.flags.now) c.args.request.now c.args.tally.now (planned_view c.args.planned.now) right_view f c.from_residual.result is c.in_err-verify_tally.ensures.exact

pub returns : goal.returns
returns c = right (flags_view c.args.flags.now) c.args.request.now c.args.tally.now (planned_view c.args.planned.now) c.in_ok-verify_tally.ensures.exact c.in_ok-verify_tally.ensures.shown
