use Rattle.std.proofs.Common.{◌≡◌, ◌∙◌, Err, ap}
use Rattle.std.proofs.lemmas.Result.{err_from_is_err_and}
use Rattle.flag_defs.specs.Flags.{flags_view}
use Rattle.library_rollouts.specs.Plan.{IsPlanOn}
use Rattle.library_rollouts.specs.Reading.{OfTally}
use Rattle.library_rollouts.specs.Refusal.{of_document, of_tally}
use Rattle.library_rollouts.proofs.InTurn.{no_flags, no_tally, with_flags, with_tally}
use Rattle.library_rollouts.specs.View.{line_view}
use Rattle.library_rollouts.proofs.planning.planned.Goals as goal

pub returns-in_err-flags-clause-made : goal.returns-in_err-flags-clause-made
returns-in_err-flags-clause-made c =
    let f = c.in_err-flags.field-0.0 in
    let p = err_from_is_err_and c.from_residual.result c.from_residual.ensures.1 in
    let is : c.from_residual.result ≡ Err (of_document f) = p.1 ∙ ap Err p.2 in
    no_flags line_view c.args.document.now (λ flags. OfTally c.args.tally.now (IsPlanOn c.args.request.now flags)) f c.from_residual.result is c.in_err-flags.ensures.means

pub returns-in_err-tally-clause-made : goal.returns-in_err-tally-clause-made
returns-in_err-tally-clause-made c =
    let flags = flags_view c.in_ok-flags.flags in
    let f = c.in_err-tally.field-0.0 in
    let p = err_from_is_err_and c.from_residual-in_err-tally.result c.from_residual-in_err-tally.ensures.1 in
    let is : c.from_residual-in_err-tally.result ≡ Err (of_tally f) = p.1 ∙ ap Err p.2 in
    with_flags line_view c.args.document.now (λ flags. OfTally c.args.tally.now (IsPlanOn c.args.request.now flags)) flags c.from_residual-in_err-tally.result c.in_ok-flags.ensures.means
    (no_tally line_view c.args.tally.now (IsPlanOn c.args.request.now flags) f c.from_residual-in_err-tally.result is c.in_err-tally.ensures.exact)

pub returns-clause-made : goal.returns-clause-made
returns-clause-made c =
    let flags = flags_view c.in_ok-flags.flags in
    with_flags line_view c.args.document.now (λ flags. OfTally c.args.tally.now (IsPlanOn c.args.request.now flags)) flags c.planned_on.result c.in_ok-flags.ensures.means
    (with_tally line_view c.args.tally.now (IsPlanOn c.args.request.now flags) c.in_ok-tally.tally c.planned_on.result c.in_ok-tally.ensures.exact c.planned_on.ensures)
