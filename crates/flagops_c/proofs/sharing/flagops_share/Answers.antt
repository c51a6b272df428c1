use Rattle.std.proofs.Common.{◌≡◌, Some, sym, ap, ◌∙◌}
use Rattle.library_seat.specs.Seat.{sharing}
use Rattle.library_seat.specs.View.{seat_view}
use Rattle.flagops_c.specs.Calls.{or_fresh, standing}
use Rattle.flagops_c.proofs.Called.{done}
use Rattle.flagops_c.proofs.sharing.flagops_share.Goals as goal

pub returns-clause-shared : goal.returns-clause-shared
returns-clause-shared c = λ zero.
    let was : Some c.deref_mut.result.now ≡ c.args.from.now.seat = ap Some c.deref_mut.ensures.value ∙ c.in-Some.ensures.taken in
    let now : standing c.share_to-shared.new.to.seat ≡ Some (sharing (seat_view c.deref_mut.result.now) (or_fresh (standing c.args.to.now.seat))) =
    done (standing c.share_to-shared.new.to.seat ≡ Some (sharing (seat_view c.deref_mut.result.now) (or_fresh (standing c.args.to.now.seat))))
    (standing c.share_to-shared.new.to.seat ≡ standing c.args.to.now.seat)
    c.share_to-shared.result c.number_of.result c.number_of.ensures c.share_to-shared.ensures.refused c.share_to-shared.ensures.shared zero in
    (seat_view c.deref_mut.result.now, ap standing (sym was), now)
