use Rattle.std.proofs.Common.{sym, ◌∙◌}
use Rattle.ofrep_connections.proofs.Peers.{kept}
use Rattle.ofrep_connections.proofs.closing.refuse.Goals as goal

pub returns-in-Some : goal.returns-in-Some
returns-in-Some g c =
    kept g.S.Recording.stands g.T.Socket.contents c.args.service.now c.args.peers.now c.args.key c.in-Some.peer.now c.come_again.new.self (sym c.in-Some.ensures.value)
    (c.come_again.ensures.connection ∙ c.refuse-stay.ensures.connection) (λ none. c.come_again.ensures.contents ∙ c.refuse-stay.ensures.contents (sym c.come_again.ensures.dropping ∙ none))
    (λ none. c.refuse-stay.ensures.dropping (sym c.come_again.ensures.dropping ∙ none)) c.requires
