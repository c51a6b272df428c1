use Rattle.std.proofs.Common.{◌≡◌, Result, Err, String, Global, ap}
use Rattle.std.specs.Prelude.{string_bytes}
use Rattle.flag_defs.specs.Flags.{flags_view}
use Rattle.note_streams.specs.LogLines.{files_view}
use Rattle.plan_text.specs.Answer.{planned_view}
use Rattle.control_answers.specs.Check.{IsVerdictOf}
use Rattle.control_answers.specs.Refusal.{of_read}
use Rattle.control_answers.specs.declared.refusal.ControlRefusal.{ControlRefusal}
use Rattle.control_answers.proofs.Checked.{no_answer, with_answer}
use Rattle.control_answers.proofs.checking.check_answer.Goals as goal

pub returns-in-Err-clause-exact : goal.returns-in-Err-clause-exact
returns-in-Err-clause-exact c =
    let r : Result (String Global) ControlRefusal = Err c.of_read.result in
    let is : r ≡ Err (of_read c.in-Err.fault) = ap Err c.of_read.ensures in
    no_answer string_bytes c.args.plan.now (IsVerdictOf (flags_view c.args.flags.now) c.args.request.now (files_view c.args.files.now)) c.in-Err.fault r is c.in-Err.ensures.exact

pub returns-clause-exact : goal.returns-clause-exact
returns-clause-exact c =
    with_answer string_bytes c.args.plan.now (IsVerdictOf (flags_view c.args.flags.now) c.args.request.now (files_view c.args.files.now)) (planned_view c.in-Ok.planned) c.check_planned.result c.in-Ok.ensures.exact c.check_planned.ensures
