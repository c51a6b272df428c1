use Rattle.std.proofs.Common.{subst, sym}
use Rattle.http_server.specs.History.{History}
use Rattle.service_layers.specs.Stand.{AllStand}
use Rattle.ofrep_connections.specs.Socket.{IsTied}
use Rattle.ofrep_connections.proofs.Sockets.{nothing_stands, tied_new}
use Rattle.ofrep_connections.proofs.admission.take.Goals as goal

pub welcome-requires-clause-own : goal.welcome-requires-clause-own
welcome-requires-clause-own g c = (
  subst (λ (h : History). AllStand g.S.Recording.stands c.args.service.now h.calls) (sym c.new-connection.ensures.history) (nothing_stands g.S.Recording.stands c.args.service.now),
  λ _. subst (λ (h : History). IsTied (g.T.Socket.contents c.register.new.self) h.sent) (sym c.new-connection.ensures.history) (tied_new (g.T.Socket.contents c.register.new.self)),
)
