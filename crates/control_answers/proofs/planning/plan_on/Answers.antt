use Rattle.std.proofs.Common.{◌≡◌, ◌∙◌, Err, ap}
use Rattle.std.proofs.lemmas.Result.{err_from_is_err_and}
use Rattle.control_answers.specs.Plan.{IsPlanOn}
use Rattle.control_answers.specs.Snapshot.{snapshot_view}
use Rattle.control_answers.specs.Refusal.{of_rollout}
use Rattle.control_answers.specs.View.{bytes_view, told_view}
use Rattle.control_answers.specs.declared.refusal.ControlRefusal.TheVariants.{WantOfMemory}
use Rattle.control_answers.proofs.Planned.{answered, unplanned, unprinted}
use Rattle.control_answers.proofs.Turns.{wanted}
use Rattle.control_answers.proofs.planning.plan_on.Goals as goal

pub returns-in_err-planned : goal.returns-in_err-planned
returns-in_err-planned c =
    let f = c.in_err-planned.field-0.0 in
    let r = c.from_residual.result in
    let p = err_from_is_err_and r c.from_residual.ensures.1 in
    let is : r ≡ Err (of_rollout f) = p.1 ∙ ap Err p.2 in
    unplanned (snapshot_view c.args.snapshot.now) c.args.request.now c.args.tally.now bytes_view f r is c.in_err-planned.ensures.exact

pub returns-in-Err : goal.returns-in-Err
returns-in-Err c =
    unprinted (snapshot_view c.args.snapshot.now) c.args.request.now c.args.tally.now bytes_view c.in_ok-planned.planned c.in-Err.fault (Err c.of_printed.result) (ap Err c.of_printed.ensures) c.in_ok-planned.ensures.exact c.in-Err.ensures.exact

pub returns-in_err-told : goal.returns-in_err-told
returns-in_err-told c =
    let r = c.from_residual-in_err-told.result in
    let p = err_from_is_err_and r c.from_residual-in_err-told.ensures.1 in
    let is : r ≡ Err WantOfMemory = p.1 ∙ ap Err p.2 in
    wanted bytes_view (IsPlanOn (snapshot_view c.args.snapshot.now) c.args.request.now c.args.tally.now) r is

pub returns-in_err-told_text : goal.returns-in_err-told_text
returns-in_err-told_text c =
    let r = c.from_residual-in_err-told_text.result in
    let p = err_from_is_err_and r c.from_residual-in_err-told_text.ensures.1 in
    let is : r ≡ Err WantOfMemory = p.1 ∙ ap Err p.2 in
    wanted bytes_view (IsPlanOn (snapshot_view c.args.snapshot.now) c.args.request.now c.args.tally.now) r is

pub returns : goal.returns
returns c =
    answered (snapshot_view c.args.snapshot.now) c.args.request.now c.args.tally.now c.in_ok-planned.planned c.in-Ok.plan.items (told_view c.in_ok-told.told) c.in_ok-told_text.field-0.items
    c.in_ok-planned.ensures.exact c.in-Ok.ensures.exact c.in_ok-told.ensures.told c.in_ok-told_text.ensures
