use Rattle.std.proofs.Common.{◌≡◌}
use Rattle.http_server.specs.Connection.{history}
use Rattle.service_layers.specs.Stand.{AllStand}
use Rattle.service_layers.proofs.Standing.{Leads}
use Rattle.ofrep_connections.specs.Socket.{Exchanges}
use Rattle.ofrep_connections.proofs.peer.Peer.go_on.Given as goal

abbrev pub invariant-loop : goal.invariant-loop
invariant-loop g l =
    Leads g.S.Service.answers l.fn.service l.service × AllStand g.S.Recording.stands l.service (history l.self.connection).calls
    × Exchanges (history l.fn.self.connection) (history l.self.connection) (g.T.Socket.remaining l.fn.self.socket) (g.T.Socket.remaining l.self.socket) (g.T.Socket.contents l.fn.self.socket) (g.T.Socket.contents l.self.socket)
    × (l.self.dropping ≡ l.fn.self.dropping)
