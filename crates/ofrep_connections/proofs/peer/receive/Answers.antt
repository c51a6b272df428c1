use Rattle.ofrep_connections.proofs.Sockets.{of_read}
use Rattle.ofrep_connections.proofs.peer.receive.Goals as goal

pub returns-clause-exchanges : goal.returns-clause-exchanges
returns-clause-exchanges g c =
    of_read c.receive.result c.args.connection.now c.receive.new.connection _ _ _ _ c.receive.ensures.received c.receive.ensures.unreceived c.receive.ensures.contents
