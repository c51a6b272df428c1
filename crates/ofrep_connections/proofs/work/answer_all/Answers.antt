use Rattle.ofrep_connections.proofs.Turns.{goes_then}
use Rattle.ofrep_connections.proofs.work.answer_all.Goals as goal

pub returns : goal.returns
returns g c =
    goes_then g.S.Service.answers g.S.Recording.looked c.args.service.now c.turn.new.service c.end.new.service c.turn.ensures.turns c.end.ensures
