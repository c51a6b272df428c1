use Rattle.std.proofs.Common.{◌≡◌, ◌∙◌, ℕ, List, Err, ap, subst, rules}
use Rattle.std.proofs.lemmas.Result.{err_from_is_err_and}
use Rattle.flag_defs.specs.Flags.{flags_view}
use Rattle.plan_text.specs.Answer.{planned_view}
use Rattle.rollout.specs.CheckedTally.{IsTallyOutcome, tally_problem_of}
use Rattle.rollout.specs.Verified.{refining_for}
use Rattle.library_rollouts.specs.Apply.{IsKeptOn}
use Rattle.library_rollouts.specs.Refusal.{of_verdict}
use Rattle.library_rollouts.specs.declared.refusal.RolloutRefusal.TheVariants.{WantOfMemory}
use Rattle.library_rollouts.proofs.Kept.{by_wrong}
use Rattle.library_rollouts.proofs.InTurn.{wanted}
use Rattle.library_rollouts.specs.View.{bytes_view}
use Rattle.library_rollouts.proofs.applying.applied_on.Goals as goal

pub returns-in_err-bytes : goal.returns-in_err-bytes
returns-in_err-bytes c =
    let r = c.from_residual.result in
    let p = err_from_is_err_and r c.from_residual.ensures.1 in
    let is : r ≡ Err WantOfMemory = p.1 ∙ ap Err p.2 in
    wanted bytes_view (IsKeptOn c.args.document.now c.args.request.now (flags_view c.args.flags.now) c.args.tally.now (planned_view c.args.planned.now)) r is

pub returns-in_err-request : goal.returns-in_err-request
returns-in_err-request c =
    let r = c.from_residual-in_err-request.result in
    let p = err_from_is_err_and r c.from_residual-in_err-request.ensures.1 in
    let is : r ≡ Err WantOfMemory = p.1 ∙ ap Err p.2 in
    wanted bytes_view (IsKeptOn c.args.document.now c.args.request.now (flags_view c.args.flags.now) c.args.tally.now (planned_view c.args.planned.now)) r is

pub returns-in_err-verify_file_on_tally : goal.returns-in_err-verify_file_on_tally
returns-in_err-verify_file_on_tally c =
    let answer = planned_view c.args.planned.now in
    let flags = flags_view c.args.flags.now in
    let f = c.in_err-verify_file_on_tally.field-0.0 in
    let r = c.from_residual-in_err-verify_file_on_tally.result in
    let p = err_from_is_err_and r c.from_residual-in_err-verify_file_on_tally.ensures.1 in
    let is : r ≡ Err (of_verdict f) = p.1 ∙ ap Err p.2 in
    let same : c.in_ok-request.request ≡ c.args.request.now = search rules in
    let told = subst (λ (x : List ℕ). IsTallyOutcome (tally_problem_of (refining_for answer) flags x c.args.tally.now) answer (Err f)) same c.in_err-verify_file_on_tally.ensures.exact in
    by_wrong c.args.document.now c.args.request.now flags c.args.tally.now answer bytes_view f r is told
