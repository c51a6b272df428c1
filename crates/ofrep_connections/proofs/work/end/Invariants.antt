use Rattle.std.proofs.Common.{None}
use Rattle.ofrep_connections.specs.Stand.{PeersStand}
use Rattle.service_layers.proofs.Standing.{Goes}
use Rattle.ofrep_connections.proofs.work.end.Given as goal

abbrev pub invariant-loop : goal.invariant-loop
invariant-loop g l = Goes g.S.Service.answers g.S.Recording.looked l.fn.service l.service × PeersStand g.S.Recording.stands (λ _. None) l.service l.peers
