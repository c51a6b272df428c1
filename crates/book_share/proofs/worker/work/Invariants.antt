use Rattle.std.proofs.Common.{◌-◌, length}
use Rattle.flag_defs.specs.Flags.{flags_view}
use Rattle.book_share.proofs.Telling.{IsToldSoFar}
use Rattle.book_share.proofs.Turns.{IsSoFar}
use Rattle.book_share.proofs.worker.work.Given as goal

abbrev pub invariant-loop-ask : goal.invariant-loop-ask
invariant-loop-ask g l =
    IsSoFar (flags_view l.fn.round.flags.now) l.fn.round.asks.now (l.fn.round.step - 1) l.first l.ask l.seat l.answers.items l.refused
    × IsToldSoFar (λ n. g.G.Gate.started l.fn.round.gate.now n × g.G.Gate.told l.fn.round.gate.now n) l.fn.round.step l.first l.ask

abbrev pub decreases-loop-ask : goal.decreases-loop-ask
decreases-loop-ask g l = length l.fn.round.asks.now - l.ask
