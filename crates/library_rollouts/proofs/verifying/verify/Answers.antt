use Rattle.std.proofs.Common.{◌≡◌, ◌∙◌, Err, ap}
use Rattle.std.proofs.lemmas.Result.{err_from_is_err_and}
use Rattle.flag_defs.specs.Flags.{flags_view}
use Rattle.plan_text.specs.Answer.{planned_view}
use Rattle.library_rollouts.specs.Reading.{OfAnswer, OfTally}
use Rattle.library_rollouts.specs.Refusal.{of_document, of_plan, of_tally}
use Rattle.library_rollouts.specs.Verify.{IsVerdictOn}
use Rattle.library_rollouts.proofs.InTurn.{no_answer, no_flags, no_tally, with_answer, with_flags, with_tally}
use Rattle.library_rollouts.specs.View.{right_view}
use Rattle.library_rollouts.proofs.verifying.verify.Goals as goal

pub returns-in_err-flags-clause-verdict : goal.returns-in_err-flags-clause-verdict
returns-in_err-flags-clause-verdict c =
    let f = c.in_err-flags.field-0.0 in
    let p = err_from_is_err_and c.from_residual.result c.from_residual.ensures.1 in
    let is : c.from_residual.result ≡ Err (of_document f) = p.1 ∙ ap Err p.2 in
    no_flags right_view c.args.document.now (λ flags. OfTally c.args.tally.now (λ t. OfAnswer c.args.plan.now (IsVerdictOn c.args.request.now flags t))) f c.from_residual.result is c.in_err-flags.ensures.means

pub returns-in_err-tally-clause-verdict : goal.returns-in_err-tally-clause-verdict
returns-in_err-tally-clause-verdict c =
    let flags = flags_view c.in_ok-flags.flags in
    let f = c.in_err-tally.field-0.0 in
    let r = c.from_residual-in_err-tally.result in
    let p = err_from_is_err_and r c.from_residual-in_err-tally.ensures.1 in
    let is : r ≡ Err (of_tally f) = p.1 ∙ ap Err p.2 in
    with_flags right_view c.args.document.now (λ flags. OfTally c.args.tally.now (λ t. OfAnswer c.args.plan.now (IsVerdictOn c.args.request.now flags t))) flags r c.in_ok-flags.ensures.means
    (no_tally right_view c.args.tally.now (λ t. OfAnswer c.args.plan.now (IsVerdictOn c.args.request.now flags t)) f r is c.in_err-tally.ensures.exact)

pub returns-in_err-planned-clause-verdict : goal.returns-in_err-planned-clause-verdict
returns-in_err-planned-clause-verdict c =
    let flags = flags_view c.in_ok-flags.flags in
    let t = c.in_ok-tally.tally in
    let f = c.in_err-planned.field-0.0 in
    let r = c.from_residual-in_err-planned.result in
    let p = err_from_is_err_and r c.from_residual-in_err-planned.ensures.1 in
    let is : r ≡ Err (of_plan f) = p.1 ∙ ap Err p.2 in
    with_flags right_view c.args.document.now (λ flags. OfTally c.args.tally.now (λ t. OfAnswer c.args.plan.now (IsVerdictOn c.args.request.now flags t))) flags r c.in_ok-flags.ensures.means
    (with_tally right_view c.args.tally.now (λ t. OfAnswer c.args.plan.now (IsVerdictOn c.args.request.now flags t)) t r c.in_ok-tally.ensures.exact
    (no_answer right_view c.args.plan.now (IsVerdictOn c.args.request.now flags t) f r is c.in_err-planned.ensures.exact))

pub returns-clause-verdict : goal.returns-clause-verdict
returns-clause-verdict c =
    let flags = flags_view c.in_ok-flags.flags in
    let t = c.in_ok-tally.tally in
    let r = c.verdict_on.result in
    with_flags right_view c.args.document.now (λ flags. OfTally c.args.tally.now (λ t. OfAnswer c.args.plan.now (IsVerdictOn c.args.request.now flags t))) flags r c.in_ok-flags.ensures.means
    (with_tally right_view c.args.tally.now (λ t. OfAnswer c.args.plan.now (IsVerdictOn c.args.request.now flags t)) t r c.in_ok-tally.ensures.exact
    (with_answer right_view c.args.plan.now (IsVerdictOn c.args.request.now flags t) (planned_view c.in_ok-planned.planned) r c.in_ok-planned.ensures.exact c.verdict_on.ensures))
