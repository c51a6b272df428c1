use Rattle.http_server.specs.Connection.{history}
use Rattle.ofrep_connections.proofs.Sockets.{exchanges_given, given_front}
use Rattle.ofrep_connections.proofs.peer.send.Goals as goal

pub returns-clause-exchanges : goal.returns-clause-exchanges
returns-clause-exchanges g c =
    exchanges_given (history c.args.connection.now) (history c.sent.new.self) _ _ _ _ c.in_ok-count.count c.sent.ensures.history
    (given_front _ _ c.next_answers.result.now (history c.args.connection.now).pending c.in_ok-count.count c.next_answers.ensures c.in_ok-count.ensures.bound c.in_ok-count.ensures.given) c.give.ensures.remaining
