use Rattle.std.specs.Prelude.{option_map}
use Rattle.std.proofs.Common.{refl}
use Rattle.sync_frames.specs.Snapshots.{snapshot_view}
use Rattle.library_seat.specs.Feeding.{Heard}
use Rattle.library_seat.specs.View.{connection_view, seat_view}
use Rattle.library_seat.proofs.Idle.{heard_nothing}
use Rattle.library_seat.proofs.seat.Seat.feed.Goals as goal

pub returns-in-Ok-clause-idle : goal.returns-in-Ok-clause-idle
returns-in-Ok-clause-idle c = λ i.
    let old : Heard = record { seat = seat_view c.args.self.now; number = c.args.number.now; came = c.args.came.now } in
    let after : Heard = record { seat = seat_view c.hear.new.self; number = c.hear.new.number; came = c.hear.new.came } in
    (refl, heard_nothing c.args.piece.now old after (connection_view c.take_piece.new.feed) (option_map snapshot_view c.in-Ok.newest) c.in-Ok.ensures.brings c.hear.ensures i)
