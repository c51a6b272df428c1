use Rattle.transport_plan.proofs.ProvedFlow.{proved}
use Rattle.transport_plan.proofs.laws.dual_prices_of_an_optimal_flow_prove_its_cost.Goals as goal

pub returns : goal.returns
returns c p numbers alpha beta cost lawful optimal each least is = proved p numbers alpha beta cost lawful optimal each least is
