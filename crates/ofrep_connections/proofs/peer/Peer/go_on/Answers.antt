use Rattle.std.proofs.Common.{sym, subst, refl, [], List, ◌∙◌}
use Rattle.http_server.specs.Connection.{history}
use Rattle.http_server.specs.Exchange.{Call}
use Rattle.http_server.proofs.Theorems.{always_served}
use Rattle.service_layers.specs.Stand.{AllStand}
use Rattle.service_layers.proofs.Standing.{leads_on, stand_after}
use Rattle.ofrep_connections.proofs.Sockets.{exchanges_none, exchanges_quiet, exchanges_then}
use Rattle.ofrep_connections.proofs.peer.Peer.go_on.Goals as goal

pub move_bytes-requires-clause-served : goal.move_bytes-requires-clause-served
move_bytes-requires-clause-served g c = always_served c.loop.self.connection

pub loop-init : goal.loop-init
loop-init g c = (
  ([], refl),
  c.requires,
  exchanges_none (history c.args.self.now.connection) (history c.args.self.now.connection) (g.T.Socket.remaining c.args.self.now.socket) (g.T.Socket.remaining c.args.self.now.socket)
      (g.T.Socket.contents c.args.self.now.socket) (g.T.Socket.contents c.args.self.now.socket) refl refl refl refl,
  refl,
)

pub returns-then-is_over-clause-stand : goal.returns-then-is_over-clause-stand
returns-then-is_over-clause-stand g c =
    let moved = subst (λ (calls : List Call). AllStand g.S.Recording.stands c.loop.service calls) (sym c.move_bytes.ensures.calls) c.loop.invariant.1 in
    stand_after g.S.Service.answers g.S.Recording.stands g.met.S.Recording.given g.met.S.Recording.stays c.loop.service c.advance.new.service _ _ moved c.advance.ensures.calls

pub returns-then-is_over-clause-chain : goal.returns-then-is_over-clause-chain
returns-then-is_over-clause-chain g c = leads_on g.S.Service.answers c.args.service.now c.loop.service c.advance.new.service _ _ c.loop.invariant.0 c.advance.ensures.calls

pub loop-preserved : goal.loop-preserved
loop-preserved g c =
    let moved = subst (λ (calls : List Call). AllStand g.S.Recording.stands c.loop.service calls) (sym c.move_bytes.ensures.calls) c.loop.invariant.1 in (
      leads_on g.S.Service.answers c.args.service.now c.loop.service c.advance.new.service _ _ c.loop.invariant.0 c.advance.ensures.calls,
      stand_after g.S.Service.answers g.S.Recording.stands g.met.S.Recording.given g.met.S.Recording.stays c.loop.service c.advance.new.service _ _ moved c.advance.ensures.calls,
      exchanges_then (history c.args.self.now.connection) (history c.loop.self.connection) (history c.advance.new.self)
          (g.T.Socket.remaining c.args.self.now.socket) (g.T.Socket.remaining c.loop.self.socket) (g.T.Socket.remaining c.move_bytes.new.self.socket)
          (g.T.Socket.contents c.args.self.now.socket) (g.T.Socket.contents c.loop.self.socket) (g.T.Socket.contents c.move_bytes.new.self.socket)
          c.loop.invariant.2
          (exchanges_quiet (history c.loop.self.connection) (history c.move_bytes.new.self.connection) (history c.advance.new.self) _ _ _ _ c.move_bytes.ensures.exchanges c.advance.ensures.quiet),
      c.move_bytes.ensures.dropping ∙ c.loop.invariant.3,
    )
