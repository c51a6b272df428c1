use Rattle.std.proofs.Common.{None}
use Rattle.ofrep_connections.specs.Stand.{PeersStand}
use Rattle.service_layers.proofs.Standing.{GoesOn}
use Rattle.ofrep_connections.proofs.work.answer_ready.Given as goal

abbrev pub invariant-loop-event : goal.invariant-loop-event
invariant-loop-event g l = GoesOn g.S.Service.answers g.S.Recording.looked l.fn.service l.service × PeersStand g.S.Recording.stands (λ _. None) l.service l.peers
