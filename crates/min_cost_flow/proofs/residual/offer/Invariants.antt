use Rattle.min_cost_flow.proofs.Offering.{OffersBelow}
use Rattle.min_cost_flow.proofs.residual.offer.Given as goal

abbrev pub invariant-loop-w : goal.invariant-loop-w
invariant-loop-w l = OffersBelow l.here l.group l.count l.costs l.initial.row l.row l.w
