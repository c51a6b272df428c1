use Rattle.flagops_streams.specs.declared.disconnected.TheConstants.{MOST_TURNS}
use Rattle.flagops_streams.proofs.Sending.{parted}
use Rattle.flagops_streams.proofs.subscriber.attended.Goals as goal

pub returns : goal.returns
returns g c =
    let sent = c.send_in_time-sent.result in
    parted MOST_TURNS c.args.seat sent.end c.part-end.result sent.frames sent.number c.part-end.ensures c.send_in_time-sent.ensures

pub invariant_of-result : goal.invariant_of-result
invariant_of-result g c =
    let sent = c.send_in_time-sent.result in
    record { served = ∣ (c.args.seat, parted MOST_TURNS c.args.seat sent.end c.part-end.result sent.frames sent.number c.part-end.ensures c.send_in_time-sent.ensures) ∣₁ }
