use Rattle.ofrep_connections.proofs.Peers.{removed}
use Rattle.ofrep_connections.proofs.closing.leave.Goals as goal

pub returns-in-Some : goal.returns-in-Some
returns-in-Some g c = removed g.S.Recording.stands g.T.Socket.contents c.args.service.now c.args.peers.now c.try_remove.new.self c.args.key c.try_remove.ensures.updates c.requires

pub returns-in_default : goal.returns-in_default
returns-in_default g c = removed g.S.Recording.stands g.T.Socket.contents c.args.service.now c.args.peers.now c.try_remove.new.self c.args.key c.try_remove.ensures.updates c.requires
