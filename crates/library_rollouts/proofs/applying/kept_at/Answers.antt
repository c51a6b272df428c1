use Rattle.std.proofs.Common.{◌≡◌, ◌∙◌, Err, ap}
use Rattle.std.proofs.lemmas.Result.{err_from_is_err_and}
use Rattle.flag_defs.specs.Flags.{flags_view}
use Rattle.library_rollouts.specs.Refusal.{of_keep, of_rollout}
use Rattle.library_rollouts.proofs.Kept.{edited, unchanged, unedited}
use Rattle.library_rollouts.specs.View.{bytes_view}
use Rattle.library_rollouts.proofs.applying.kept_at.Goals as goal

pub returns-in_err-wanted : goal.returns-in_err-wanted
returns-in_err-wanted c =
    let f = c.in_err-wanted.field-0.0 in
    let p = err_from_is_err_and c.from_residual.result c.from_residual.ensures.1 in
    let is : c.from_residual.result ≡ Err (of_rollout f) = p.1 ∙ ap Err p.2 in
    unchanged c.args.document.now (flags_view c.args.flags.now) c.args.key.now c.args.site c.args.rule.now bytes_view f c.from_residual.result is c.in_err-wanted.ensures.exact

pub returns-in_err-text : goal.returns-in_err-text
returns-in_err-text c =
    let f = c.in_err-text.field-0.0 in
    let r = c.from_residual-in_err-text.result in
    let p = err_from_is_err_and r c.from_residual-in_err-text.ensures.1 in
    let is : r ≡ Err (of_keep f) = p.1 ∙ ap Err p.2 in
    unedited c.args.document.now (flags_view c.args.flags.now) c.args.key.now c.args.site c.args.rule.now bytes_view (flags_view c.in_ok-wanted.wanted) f r is c.in_ok-wanted.ensures.exact c.in_err-text.ensures.refused

pub returns : goal.returns
returns c =
    edited c.args.document.now (flags_view c.args.flags.now) c.args.key.now c.args.site c.args.rule.now (flags_view c.in_ok-wanted.wanted) c.in_ok-text.text.items c.in_ok-wanted.ensures.exact c.in_ok-text.ensures.kept c.in_ok-text.ensures.means
