use Rattle.std.proofs.Common.{Err, ap}
use Rattle.note_streams.specs.LogLines.{files_view}
use Rattle.plan_text.specs.Answer.{planned_view}
use Rattle.control_answers.specs.Apply.{IsAppliedOf, applied_view}
use Rattle.control_answers.specs.Snapshot.{snapshot_view}
use Rattle.control_answers.proofs.Checked.{no_answer, with_answer}
use Rattle.control_answers.proofs.applying.apply_token.Goals as goal

pub returns-in-Err : goal.returns-in-Err
returns-in-Err c =
    no_answer applied_view c.args.token.now.plan.now (IsAppliedOf (snapshot_view c.args.snapshot.now) c.args.token.now.request.now (files_view c.args.files.now)) c.in-Err.fault (Err c.of_read.result) (ap Err c.of_read.ensures) c.in-Err.ensures.exact

pub returns : goal.returns
returns c =
    with_answer applied_view c.args.token.now.plan.now (IsAppliedOf (snapshot_view c.args.snapshot.now) c.args.token.now.request.now (files_view c.args.files.now)) (planned_view c.in-Ok.planned) c.apply_planned.result c.in-Ok.ensures.exact c.apply_planned.ensures
