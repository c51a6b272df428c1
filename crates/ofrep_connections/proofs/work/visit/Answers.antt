use Rattle.std.proofs.Common.{◌≡◌, ℕ, List, None, Option, subst, sym, ◌∙◌}
use Rattle.http_server.specs.Connection.{history}
use Rattle.http_server.specs.declared.connection.Connection.{Connection}
use Rattle.service_layers.specs.Stand.{AllStand}
use Rattle.ofrep_connections.specs.Socket.{IsTied}
use Rattle.ofrep_connections.proofs.Peers.{peers_stay, replaced}
use Rattle.ofrep_connections.proofs.Sockets.{tied_on}
use Rattle.ofrep_connections.proofs.work.visit.Goals as goal

pub go_on-stay-requires : goal.go_on-stay-requires
go_on-stay-requires g c = (c.requires c.args.key c.in-Some.peer.now (sym c.in-Some.ensures.value)).0

pub returns-clause-stand : goal.returns-clause-stand
returns-clause-stand g c =
    let later = peers_stay g.S.Service.answers g.S.Recording.stands g.T.Socket.contents g.met.S.Recording.given g.met.S.Recording.stays c.args.service.now c.go_on-stay.new.service c.args.peers.now c.requires c.go_on-stay.ensures.chain in
    let own = subst (λ (k : Connection). AllStand g.S.Recording.stands c.go_on-stay.new.service (history k).calls) (sym c.come_again.ensures.connection) c.go_on-stay.ensures.stand in
    let tied = (c.requires c.args.key c.in-Some.peer.now (sym c.in-Some.ensures.value)).1 in
    let told : c.in-Some.peer.now.dropping ≡ None → IsTied (g.T.Socket.contents c.go_on-stay.new.self.socket) (history c.go_on-stay.new.self.connection).sent =
    λ before. tied_on (history c.in-Some.peer.now.connection) (history c.go_on-stay.new.self.connection) _ _ _ _ c.go_on-stay.ensures.exchanges (tied before) in
    let kept : c.in-Some.peer.now.dropping ≡ None → IsTied (g.T.Socket.contents c.go_on-stay.new.self.socket) (history c.come_again.new.self.connection).sent =
    λ before. subst (λ (k : Connection). IsTied (g.T.Socket.contents c.go_on-stay.new.self.socket) (history k).sent) (sym c.come_again.ensures.connection) (told before) in
    let given : c.come_again.new.self.dropping ≡ None → IsTied (g.T.Socket.contents c.come_again.new.self.socket) (history c.come_again.new.self.connection).sent =
    λ none. subst (λ (to : Option (List ℕ)). IsTied to (history c.come_again.new.self.connection).sent) (sym c.come_again.ensures.contents)
    (kept (sym c.go_on-stay.ensures.dropping ∙ sym c.come_again.ensures.dropping ∙ none)) in
    replaced g.S.Recording.stands g.T.Socket.contents c.go_on-stay.new.service c.args.peers.now c.args.key c.in-Some.peer.now c.come_again.new.self (sym c.in-Some.ensures.value) (own, given) later
