use Rattle.std.proofs.Common.{◌≡◌, ◌∙◌, Err, ap}
use Rattle.std.specs.Prelude.{string_bytes}
use Rattle.std.proofs.lemmas.Result.{err_from_is_err_and}
use Rattle.flag_defs.specs.Flags.{flags_view}
use Rattle.note_streams.specs.LogLines.{files_view}
use Rattle.control_answers.specs.Record.{IsRecordOver}
use Rattle.control_answers.specs.Refusal.{of_rollout}
use Rattle.control_answers.specs.Target.{target_in, target_view}
use Rattle.control_answers.proofs.Turns.{no_target, with_target}
use Rattle.control_answers.proofs.recording.record_answer.Goals as goal

pub returns-in_err-target-clause-exact : goal.returns-in_err-target-clause-exact
returns-in_err-target-clause-exact c =
    let f = c.in_err-target.field-0.0 in
    let p = err_from_is_err_and c.from_residual.result c.from_residual.ensures.1 in
    let is : c.from_residual.result ≡ Err (of_rollout f) = p.1 ∙ ap Err p.2 in
    no_target string_bytes (target_in (flags_view c.args.flags.now) c.args.key.now c.args.site) (IsRecordOver (files_view c.args.files.now)) f c.from_residual.result is c.in_err-target.ensures.exact

pub returns-clause-exact : goal.returns-clause-exact
returns-clause-exact c =
    with_target string_bytes (target_in (flags_view c.args.flags.now) c.args.key.now c.args.site) (IsRecordOver (files_view c.args.files.now)) (target_view c.in_ok-target.target) c.recorded.result c.in_ok-target.ensures.exact c.recorded.ensures
