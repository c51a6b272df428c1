use Rattle.std.proofs.Common.{None}
use Rattle.ofrep_connections.specs.Stand.{PeersStand}
use Rattle.ofrep_connections.proofs.admission.admit.Given as goal

abbrev pub invariant-loop : goal.invariant-loop
invariant-loop g l = PeersStand g.S.Recording.stands (λ _. None) l.service l.peers
