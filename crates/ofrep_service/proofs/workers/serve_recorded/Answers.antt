use Rattle.ofrep_service.proofs.Resting.{all_rest}
use Rattle.ofrep_service.proofs.workers.serve_recorded.Goals as goal

-- what each answer rests on stands once it is given, and stays
pub returns-clause-turns : goal.returns-clause-turns
returns-clause-turns g c =
    let turns = c.answer_connections_with.ensures.turns in (
      turns.0,
      turns.1,
      all_rest g.S.Service.answers g.S.Recording.looked g.S.Recording.stands g.met.S.Recording.given g.met.S.Recording.stays g.met.S.Recording.looked_stays turns.0 c.args.service.now
          c.answer_connections_with.new.service turns.1,
    )
