use Rattle.ofrep_connections.proofs.Peers.{inserted}
use Rattle.ofrep_connections.proofs.admission.welcome.Goals as goal

pub returns : goal.returns
returns g c = inserted g.S.Recording.stands g.T.Socket.contents c.args.service.now c.insert.result c.args.peers.now c.insert.new.self c.args.peer c.insert.ensures.updates c.insert.ensures.err c.requires.own c.requires.stand
