use Rattle.std.proofs.Common.{◌≡◌, ◌∙◌, Err, ap}
use Rattle.std.specs.Prelude.{string_bytes}
use Rattle.std.proofs.lemmas.Result.{err_from_is_err_and}
use Rattle.flag_defs.specs.Flags.{flags_view}
use Rattle.note_streams.specs.LogLines.{files_view}
use Rattle.plan_text.specs.Answer.{planned_view}
use Rattle.control_answers.specs.Check.{IsVerdictOn}
use Rattle.control_answers.specs.Refusal.{of_logs}
use Rattle.control_answers.specs.Target.{target_view}
use Rattle.control_answers.proofs.Turns.{no_tally, with_tally}
use Rattle.control_answers.proofs.checking.check_recorded.Goals as goal

pub returns-in_err-tally : goal.returns-in_err-tally
returns-in_err-tally c =
    let f = c.in_err-tally.field-0.0 in
    let p = err_from_is_err_and c.from_residual.result c.from_residual.ensures.1 in
    let is : c.from_residual.result ≡ Err (of_logs f) = p.1 ∙ ap Err p.2 in
    no_tally string_bytes (files_view c.args.files.now) (target_view c.args.target) (IsVerdictOn (flags_view c.args.flags.now) c.args.request.now (planned_view c.args.planned.now)) f c.from_residual.result is c.in_err-tally.ensures

pub returns : goal.returns
returns c =
    with_tally string_bytes (files_view c.args.files.now) (target_view c.args.target) (IsVerdictOn (flags_view c.args.flags.now) c.args.request.now (planned_view c.args.planned.now)) c.in_ok-tally.tally c.check_on.result c.in_ok-tally.ensures c.check_on.ensures
