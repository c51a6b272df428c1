use Rattle.std.proofs.Common.{◌≡◌, ◌∙◌, Err, ap}
use Rattle.std.proofs.lemmas.Result.{err_from_is_err_and}
use Rattle.flag_defs.specs.Flags.{flags_view}
use Rattle.library_rollouts.specs.Refusal.{of_plan, of_rollout}
use Rattle.library_rollouts.proofs.Planned.{printed, unplanned, unprinted}
use Rattle.library_rollouts.specs.View.{line_view}
use Rattle.library_rollouts.proofs.planning.planned_on.Goals as goal

pub returns-in_err-planned : goal.returns-in_err-planned
returns-in_err-planned c =
    let f = c.in_err-planned.field-0.0 in
    let p = err_from_is_err_and c.from_residual.result c.from_residual.ensures.1 in
    let is : c.from_residual.result ≡ Err (of_rollout f) = p.1 ∙ ap Err p.2 in
    unplanned (flags_view c.args.flags.now) c.args.request.now c.args.tally.now line_view f c.from_residual.result is c.in_err-planned.ensures.exact

pub returns-in_err-line : goal.returns-in_err-line
returns-in_err-line c =
    let f = c.in_err-line.field-0.0 in
    let p = err_from_is_err_and c.from_residual-in_err-line.result c.from_residual-in_err-line.ensures.1 in
    let is : c.from_residual-in_err-line.result ≡ Err (of_plan f) = p.1 ∙ ap Err p.2 in
    let answer = c.in_ok-planned.ensures.answer in
    unprinted (flags_view c.args.flags.now) c.args.request.now c.args.tally.now line_view c.in_ok-planned.planned f c.from_residual-in_err-line.result is c.in_ok-planned.ensures.exact answer.ordered answer.whole c.in_err-line.ensures.exact

pub returns : goal.returns
returns c =
    let answer = c.in_ok-planned.ensures.answer in
    printed (flags_view c.args.flags.now) c.args.request.now c.args.tally.now c.in_ok-planned.planned c.in_ok-line.line.items c.has_rule.result c.in_ok-planned.ensures.exact answer.ordered answer.whole c.in_ok-line.ensures.exact c.has_rule.ensures
    (c.in_ok-line.ensures.reads_back answer.ordered)
