use Rattle.std.proofs.Common.{sym, ◌∙◌}
use Rattle.ofrep_connections.proofs.Peers.{kept}
use Rattle.ofrep_connections.proofs.closing.drop_some.Goals as goal

pub returns : goal.returns
returns g c =
    kept g.S.Recording.stands g.T.Socket.contents c.args.service.now c.args.peers.now c.args.key c.in-Some.peer.now c.come_again.new.self (sym c.in-Some.ensures.value)
    (c.come_again.ensures.connection ∙ c.drop_input-stay.ensures.connection) (λ _. c.come_again.ensures.contents ∙ c.drop_input-stay.ensures.contents)
    (λ none. c.drop_input-stay.ensures.dropping (sym c.come_again.ensures.dropping ∙ none)) c.requires
