use Rattle.std.proofs.Common.{None, [], refl}
use Rattle.service_layers.proofs.Standing.{goes_call, goes_look, goes_turn}
use Rattle.ofrep_connections.proofs.Peers.{peers_looked}
use Rattle.ofrep_connections.proofs.work.answer_ready.Goals as goal

pub loop-event-init : goal.loop-event-init
loop-event-init g c = (
  goes_look g.S.Service.answers g.S.Recording.looked c.args.service.now c.args.service.now c.look.new.self ([], refl) c.look.ensures.looked,
  peers_looked g.S.Recording.stands (λ _. None) g.S.Recording.looked g.met.S.Recording.looked_stays c.args.service.now c.look.new.self c.args.peers.now c.look.ensures.looked c.requires,
)

pub loop-event-preserved : goal.loop-event-preserved
loop-event-preserved g c = (goes_call g.S.Service.answers g.S.Recording.looked c.args.service.now c.loop-event.service c.answer_event.new.service c.loop-event.invariant.0 c.answer_event.ensures.chain, c.answer_event.ensures.stand)

pub returns-clause-turns : goal.returns-clause-turns
returns-clause-turns g c = goes_turn g.S.Service.answers g.S.Recording.looked c.args.service.now c.loop-event.service c.loop-event.invariant.0
