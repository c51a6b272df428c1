use Rattle.ofrep_connections.specs.Stand.{PeersStand}
use Rattle.ofrep_connections.proofs.closing.leave_free.Given as goal

abbrev pub invariant-loop-key : goal.invariant-loop-key
invariant-loop-key g l = PeersStand g.S.Recording.stands g.T.Socket.contents l.service l.peers
