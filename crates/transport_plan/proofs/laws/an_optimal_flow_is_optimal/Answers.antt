-- The law is its lemma.
use Rattle.transport_plan.proofs.NumberedFlow.{optimal_is}
use Rattle.transport_plan.proofs.laws.an_optimal_flow_is_optimal.Goals as goal

pub returns : goal.returns
returns c p q placed totals arcs potential beta are flow optimal within duals =
    optimal_is p q placed totals arcs potential beta are flow optimal within.0 within.1 duals.0 duals.1
