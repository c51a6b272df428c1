use Rattle.std.proofs.Common.{Err, ap}
use Rattle.plan_text.specs.Answer.{planned_view}
use Rattle.control_answers.specs.Apply.{applied_view}
use Rattle.control_answers.specs.Snapshot.{snapshot_view}
use Rattle.control_answers.proofs.Outcomes.{right, wrong}
use Rattle.control_answers.proofs.applying.apply_on.Goals as goal

pub returns-in-Err : goal.returns-in-Err
returns-in-Err c =
    wrong applied_view (snapshot_view c.args.snapshot.now) c.args.request (planned_view c.args.planned) c.args.tally.now c.in-Err.fault (Err c.of_verdict_of_token.result) (ap Err c.of_verdict_of_token.ensures) (record { told = c.in-Err.ensures.exact; shown = tt })

pub apply_right-requires : goal.apply_right-requires
apply_right-requires c = c.in-Ok.ensures.exact

pub returns-in-Ok : goal.returns-in-Ok
returns-in-Ok c =
    right applied_view (snapshot_view c.args.snapshot.now) c.args.request (planned_view c.args.planned) c.args.tally.now c.apply_right.result
    (record { told = c.in-Ok.ensures.exact; shown = c.in-Ok.ensures.shown }) c.apply_right.ensures
