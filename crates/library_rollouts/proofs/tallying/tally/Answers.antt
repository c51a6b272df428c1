use Rattle.std.proofs.Common.{◌≡◌, ◌∙◌, Err, ap, ℕ, List, refl, subst}
use Rattle.std.specs.Prelude.{string_bytes}
use Rattle.std.proofs.lemmas.Result.{err_from_is_err_and}
use Rattle.library_seat.specs.Room.{Room}
use Rattle.library_rollouts.specs.Tally.{IsTally}
use Rattle.library_rollouts.specs.Writing.{Puts}
use Rattle.library_rollouts.proofs.Made.{put_so, unmade}
use Rattle.library_rollouts.proofs.tallying.tally.Goals as goal

pub returns-in_err-text-clause-writes : goal.returns-in_err-text-clause-writes
returns-in_err-text-clause-writes c =
    let p = err_from_is_err_and c.from_residual.result c.from_residual.ensures.1 in
    let is : c.from_residual.result ≡ Err c.in_err-text.field-0.0 = p.1 ∙ ap Err p.2 in
    let room : Room = record { bytes = c.args.out.now; written = c.args.written.now } in
    unmade (IsTally c.args.document.now c.args.request.now c.args.notes.now) room room c.in_err-text.field-0.0 c.from_residual.result is c.in_err-text.ensures.made refl

pub returns-clause-writes : goal.returns-clause-writes
returns-clause-writes c =
    let old : Room = record { bytes = c.args.out.now; written = c.args.written.now } in
    let new : Room = record { bytes = c.write.new.out; written = c.write.new.written } in
    let puts = subst (λ (t : List ℕ). Puts t c.write.result old new) c.as_bytes.ensures.value c.write.ensures in
    put_so (IsTally c.args.document.now c.args.request.now c.args.notes.now) old new (string_bytes c.in_ok-text.text) c.write.result c.in_ok-text.ensures.made puts
