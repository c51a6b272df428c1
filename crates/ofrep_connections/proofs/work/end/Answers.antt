use Rattle.ofrep_connections.proofs.Turns.{goes_then}
use Rattle.ofrep_connections.proofs.work.end.Goals as goal

pub loop-preserved : goal.loop-preserved
loop-preserved g c = (
  goes_then g.S.Service.answers g.S.Recording.looked c.args.service.now c.loop.service c.answer_ready.new.service c.loop.invariant.0 c.answer_ready.ensures.turns,
  c.answer_ready.ensures.stand,
)

pub returns-in_err-now : goal.returns-in_err-now
returns-in_err-now g c =
    goes_then g.S.Service.answers g.S.Recording.looked c.args.service.now c.loop.service c.answer_ready.new.service c.loop.invariant.0 c.answer_ready.ensures.turns

pub returns-then-as_secs-ge-END_SECONDS : goal.returns-then-as_secs-ge-END_SECONDS
returns-then-as_secs-ge-END_SECONDS g c =
    goes_then g.S.Service.answers g.S.Recording.looked c.args.service.now c.loop.service c.answer_ready.new.service c.loop.invariant.0 c.answer_ready.ensures.turns
