use Rattle.transport_plan.proofs.LeastOffer.{IsLeastBelow}
use Rattle.transport_plan.proofs.dual_prices.least_offer.Given as goal

abbrev pub invariant-loop-v : goal.invariant-loop-v
invariant-loop-v l = IsLeastBelow l.costs l.name_duals l.count l.least l.v
