-- The laws are their lemmas.
use Rattle.min_cost_flow.proofs.OptimalLaws.{reduced_from_optimal, optimal_from_reduced}
use Rattle.min_cost_flow.proofs.optimal.optimality.Goals as goal

pub returns-clause-reduced : goal.returns-clause-reduced
returns-clause-reduced c f arc potential residual optimal = reduced_from_optimal f arc potential residual optimal

pub returns-clause-optimal : goal.returns-clause-optimal
returns-clause-optimal c f arc potential residual reduced = optimal_from_reduced f arc potential residual reduced
