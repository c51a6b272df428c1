use Rattle.std.proofs.Common.{◌≡◌, ◌↔◌, ℕ, List, Option, Some, true, IfSome, ap, subst, ◌∙◌}
use Rattle.sync_frames.specs.Frames.{IsDone}
use Rattle.library_seat.specs.Connection.{HasGiven}
use Rattle.library_seat.specs.declared.seat.Seat.{Seat}
use Rattle.flagops_c.specs.Calls.{standing}
use Rattle.flagops_c.proofs.feeding.flagops_at_frame_end.Goals as goal

pub returns-clause-end : goal.returns-clause-end
returns-clause-end c =
    let was : Some c.deref.result.now ≡ c.args.handle.now.seat = ap Some c.deref.ensures ∙ c.in-Some.ensures.taken in
    subst (λ (held : Option Seat). IfSome (standing held) (λ s. (stream : List ℕ) → HasGiven s.connection stream → c.at_frame_end.result ≡ true ↔ IsDone stream)) was c.at_frame_end.ensures
