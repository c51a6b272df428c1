use Rattle.std.proofs.Common.{inr}
use Rattle.snap_share.specs.Known.{snapshots_of}
use Rattle.flagops_streams.specs.declared.disconnected.TheConstants.{MOST_TURNS}
use Rattle.flagops_streams.proofs.Sending.{served}
use Rattle.flagops_streams.proofs.subscriber.send.Goals as goal

pub returns-clause-served : goal.returns-clause-served
returns-clause-served g c =
    let new = c.serve_stream-end.new in
    let result = c.serve_stream-end.result in
    served (λ n. n.after) (λ l. l.seat) c.args.numbers.now new.next c.args.current.now new.current MOST_TURNS result.1 (snapshots_of new.current.seat.known) (g.O.Outlet.bytes c.args.out.now) (g.O.Outlet.bytes new.out) result.0 c.requires.first c.serve_stream-end.ensures.serves

pub returns-clause-sent : goal.returns-clause-sent
returns-clause-sent g c =
    let new = c.serve_stream-end.new in
    let result = c.serve_stream-end.result in
    let was =
    served (λ n. n.after) (λ l. l.seat) c.args.numbers.now new.next c.args.current.now new.current MOST_TURNS result.1 (snapshots_of new.current.seat.known) (g.O.Outlet.bytes c.args.out.now) (g.O.Outlet.bytes new.out) result.0 c.requires.first c.serve_stream-end.ensures.serves in
    (new.current.seat, g.O.Outlet.bytes c.args.out.now, g.O.Outlet.bytes new.out, was)

pub invariant_of-result : goal.invariant_of-result
invariant_of-result g c =
    let new = c.serve_stream-end.new in
    let result = c.serve_stream-end.result in
    let was =
    served (λ n. n.after) (λ l. l.seat) c.args.numbers.now new.next c.args.current.now new.current MOST_TURNS result.1 (snapshots_of new.current.seat.known) (g.O.Outlet.bytes c.args.out.now) (g.O.Outlet.bytes new.out) result.0 c.requires.first c.serve_stream-end.ensures.serves in
    record { served = ∣ (c.args.current.now.seat, inr (new.current.seat, g.O.Outlet.bytes c.args.out.now, g.O.Outlet.bytes new.out, was)) ∣₁ }
