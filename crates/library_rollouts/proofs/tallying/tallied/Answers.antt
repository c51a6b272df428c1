use Rattle.std.proofs.Common.{◌≡◌, ◌∙◌, Err, ap}
use Rattle.std.proofs.lemmas.Result.{err_from_is_err_and}
use Rattle.flag_defs.specs.Flags.{flags_view}
use Rattle.library_rollouts.specs.Refusal.{of_document, of_rollout}
use Rattle.library_rollouts.specs.Tally.{IsTallyOver}
use Rattle.library_rollouts.specs.Target.{WithTarget, target_of, target_view}
use Rattle.library_rollouts.proofs.InTurn.{no_flags, no_target, with_flags, with_target}
use Rattle.library_rollouts.specs.View.{text_view}
use Rattle.library_rollouts.proofs.tallying.tallied.Goals as goal

pub returns-in_err-flags-clause-made : goal.returns-in_err-flags-clause-made
returns-in_err-flags-clause-made c =
    let f = c.in_err-flags.field-0.0 in
    let p = err_from_is_err_and c.from_residual.result c.from_residual.ensures.1 in
    let is : c.from_residual.result ≡ Err (of_document f) = p.1 ∙ ap Err p.2 in
    no_flags text_view c.args.document.now (λ flags. WithTarget (IsTallyOver c.args.notes.now) (target_of flags c.args.request.now)) f c.from_residual.result is c.in_err-flags.ensures.means

pub returns-in_err-target-clause-made : goal.returns-in_err-target-clause-made
returns-in_err-target-clause-made c =
    let flags = flags_view c.in_ok-flags.flags in
    let f = c.in_err-target.field-0.0 in
    let p = err_from_is_err_and c.from_residual-in_err-target.result c.from_residual-in_err-target.ensures.1 in
    let is : c.from_residual-in_err-target.result ≡ Err (of_rollout f) = p.1 ∙ ap Err p.2 in
    with_flags text_view c.args.document.now (λ flags. WithTarget (IsTallyOver c.args.notes.now) (target_of flags c.args.request.now)) flags c.from_residual-in_err-target.result c.in_ok-flags.ensures.means
    (no_target text_view (target_of flags c.args.request.now) (IsTallyOver c.args.notes.now) f c.from_residual-in_err-target.result is c.in_err-target.ensures)

pub returns-clause-made : goal.returns-clause-made
returns-clause-made c =
    let flags = flags_view c.in_ok-flags.flags in
    with_flags text_view c.args.document.now (λ flags. WithTarget (IsTallyOver c.args.notes.now) (target_of flags c.args.request.now)) flags c.tallied_at.result c.in_ok-flags.ensures.means
    (with_target text_view (target_of flags c.args.request.now) (IsTallyOver c.args.notes.now) (target_view c.in_ok-target.target) c.tallied_at.result c.in_ok-target.ensures c.tallied_at.ensures)
