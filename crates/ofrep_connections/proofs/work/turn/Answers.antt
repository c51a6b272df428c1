use Rattle.std.proofs.Common.{None, subst, sym}
use Rattle.ofrep_connections.proofs.Turns.{goes_then}
use Rattle.slab.specs.Slab.{Slab}
use Rattle.mio.specs.declared.net.stream.TcpStream.{TcpStream}
use Rattle.ofrep_connections.specs.Stand.{PeersStand}
use Rattle.ofrep_connections.specs.declared.peer.Peer.{Peer}
use Rattle.ofrep_connections.proofs.work.turn.Goals as goal
use Rattle.ofrep_connections.proofs.work.turn.Goals.{then-as_secs-gt0, else-as_secs-gt0}

pub loop-preserved : goal.loop-preserved
loop-preserved g c =
    let P : Slab (Peer TcpStream) → Type 0 = PeersStand g.S.Recording.stands (λ _. None) c.answer_ready.new.service in (
      goes_then g.S.Service.answers g.S.Recording.looked c.args.service.now c.loop.service c.answer_ready.new.service c.loop.invariant.0 c.answer_ready.ensures.turns,
      elim c.if-as_secs-gt0.branch [
        | then-as_secs-gt0 w ↦ subst P (sym w.peers-is) w.leave_due.ensures
        | else-as_secs-gt0 w ↦ subst P (sym w.peers-is) c.admit-queue.ensures
      ],
    )

pub returns-in_err-now-clause-turns : goal.returns-in_err-now-clause-turns
returns-in_err-now-clause-turns g c =
    goes_then g.S.Service.answers g.S.Recording.looked c.args.service.now c.loop.service c.answer_ready.new.service c.loop.invariant.0 c.answer_ready.ensures.turns
