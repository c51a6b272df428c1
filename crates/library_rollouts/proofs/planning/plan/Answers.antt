use Rattle.std.proofs.Common.{◌≡◌, ◌∙◌, Err, ap, ℕ, List, refl, subst}
use Rattle.std.proofs.lemmas.Result.{err_from_is_err_and}
use Rattle.library_seat.specs.Room.{Room}
use Rattle.library_rollouts.specs.Plan.{IsPlan}
use Rattle.library_rollouts.specs.Writing.{Puts}
use Rattle.library_rollouts.proofs.Made.{unmade, unwritten}
use Rattle.library_rollouts.proofs.planning.plan.Goals as goal

pub returns-in_err-plan-clause-writes : goal.returns-in_err-plan-clause-writes
returns-in_err-plan-clause-writes c =
    let p = err_from_is_err_and c.from_residual.result c.from_residual.ensures.1 in
    let is : c.from_residual.result ≡ Err c.in_err-plan.field-0.0 = p.1 ∙ ap Err p.2 in
    let room : Room = record { bytes = c.args.out.now; written = c.args.written.now } in
    unmade (IsPlan c.args.document.now c.args.request.now c.args.tally.now) room room c.in_err-plan.field-0.0 c.from_residual.result is c.in_err-plan.ensures.made refl

pub returns-in_err-write-clause-writes : goal.returns-in_err-write-clause-writes
returns-in_err-write-clause-writes c =
    let p = err_from_is_err_and c.from_residual-in_err-write.result c.from_residual-in_err-write.ensures.1 in
    let is : c.from_residual-in_err-write.result ≡ Err c.in_err-write.field-0.0 = p.1 ∙ ap Err p.2 in
    let old : Room = record { bytes = c.args.out.now; written = c.args.written.now } in
    let new : Room = record { bytes = c.write.new.out; written = c.write.new.written } in
    let made = c.in_ok-plan.plan in
    let puts = subst (λ (t : List ℕ). Puts t (Err c.in_err-write.field-0.0) old new) c.as_slice.ensures.value c.in_err-write.ensures in
    unwritten (IsPlan c.args.document.now c.args.request.now c.args.tally.now) old new made.line.items made.has_rule c.in_err-write.field-0.0 c.from_residual-in_err-write.result is c.in_ok-plan.ensures.made puts
