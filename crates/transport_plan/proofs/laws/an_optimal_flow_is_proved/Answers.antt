-- The law is complementary slackness, by the facts of the flow by number.
use Rattle.std.proofs.Common.{sym, ◌∙◌}
use Rattle.transport_plan.proofs.ProvedFlow.{proved}
use Rattle.transport_plan.proofs.Costs.{cost_listed}
use Rattle.transport_plan.proofs.NumberedFlow.{optimal_is, spent_is}
use Rattle.transport_plan.proofs.GroupOffers.{least_offers}
use Rattle.transport_plan.proofs.laws.an_optimal_flow_is_proved.Goals as goal

pub returns : goal.returns
returns c p q placed totals arcs potential alpha beta cost limits are flow optimal within duals offers cost_is =
    let spent = spent_is p q placed totals arcs potential beta are flow optimal within.0 within.1 duals.0 duals.1 in
    proved p placed alpha beta cost limits (optimal_is p q placed totals arcs potential beta are flow optimal within.0 within.1 duals.0 duals.1) offers.0 (least_offers p q alpha beta are offers.0 offers.1) (cost_listed p q placed totals arcs are flow spent ∙ sym cost_is)
