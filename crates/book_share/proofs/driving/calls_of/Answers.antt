use Rattle.std.proofs.Common.{arith}
use Rattle.book_share.proofs.Reaching.{calls_more}
use Rattle.book_share.proofs.driving.calls_of.Goals as goal

pub loop-seat-preserved : goal.loop-seat-preserved
loop-seat-preserved g c =
    let i = c.loop-seat.invariant in
    let more = calls_more c.args.seats.now c.loop-seat.seat-index c.seat-item.result c.loop-seat-test.true c.seat-item.is in
    (omega (arith, i.0, c.from-calls.ensures, c.calls.type_inv), omega (arith, i.1, c.from-calls.ensures, c.calls.ensures, more))
