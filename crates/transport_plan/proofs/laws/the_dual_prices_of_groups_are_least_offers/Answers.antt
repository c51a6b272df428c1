-- The law is its lemma.
use Rattle.transport_plan.proofs.GroupOffers.{least_offers}
use Rattle.transport_plan.proofs.laws.the_dual_prices_of_groups_are_least_offers.Goals as goal

pub returns : goal.returns
returns c p q alpha beta are offers = least_offers p q alpha beta are offers.0 offers.1
