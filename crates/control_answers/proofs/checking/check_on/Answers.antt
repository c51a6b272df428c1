use Rattle.std.proofs.Common.{◌≡◌, ◌∙◌, Err, ap}
use Rattle.std.specs.Prelude.{string_bytes}
use Rattle.std.proofs.lemmas.Result.{err_from_is_err_and}
use Rattle.flag_defs.specs.Flags.{flags_view}
use Rattle.plan_text.specs.Answer.{planned_view}
use Rattle.control_answers.specs.Check.{IsVerdictOn}
use Rattle.control_answers.specs.Refusal.{of_verdict}
use Rattle.control_answers.specs.declared.refusal.ControlRefusal.TheVariants.{WantOfMemory}
use Rattle.control_answers.proofs.Checked.{right, wrong}
use Rattle.control_answers.proofs.Turns.{wanted}
use Rattle.control_answers.proofs.checking.check_on.Goals as goal

pub returns-in_err-verify_file_on_tally : goal.returns-in_err-verify_file_on_tally
returns-in_err-verify_file_on_tally c =
    let f = c.in_err-verify_file_on_tally.field-0.0 in
    let r = c.from_residual.result in
    let p = err_from_is_err_and r c.from_residual.ensures.1 in
    let is : r ≡ Err (of_verdict f) = p.1 ∙ ap Err p.2 in
    wrong string_bytes (flags_view c.args.flags.now) c.args.request.now (planned_view c.args.planned.now) c.args.tally.now f r is c.in_err-verify_file_on_tally.ensures.exact

pub returns-in_err-valid_text : goal.returns-in_err-valid_text
returns-in_err-valid_text c =
    let r = c.from_residual-in_err-valid_text.result in
    let p = err_from_is_err_and r c.from_residual-in_err-valid_text.ensures.1 in
    let is : r ≡ Err WantOfMemory = p.1 ∙ ap Err p.2 in
    wanted string_bytes (IsVerdictOn (flags_view c.args.flags.now) c.args.request.now (planned_view c.args.planned.now) c.args.tally.now) r is

pub returns : goal.returns
returns c =
    right (flags_view c.args.flags.now) c.args.request.now (planned_view c.args.planned.now) c.args.tally.now (string_bytes c.in_ok-valid_text.field-0)
    c.in_ok-verify_file_on_tally.ensures.exact c.in_ok-verify_file_on_tally.ensures.shown c.in_ok-valid_text.ensures
