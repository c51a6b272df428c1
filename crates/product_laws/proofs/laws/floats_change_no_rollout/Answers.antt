use Rattle.product_laws.proofs.Rollouts.{applied_stay, compared_stay, plans_stay, verdicts_stay}
use Rattle.product_laws.proofs.laws.floats_change_no_rollout.Goals as goal

pub returns-clause-plans : goal.returns-clause-plans
returns-clause-plans c = plans_stay c.documents_stay.ensures.meanings

pub returns-clause-verdicts : goal.returns-clause-verdicts
returns-clause-verdicts c = verdicts_stay c.documents_stay.ensures.meanings

pub returns-clause-applied : goal.returns-clause-applied
returns-clause-applied c = applied_stay c.documents_stay.ensures.meanings c.documents_stay.ensures.trees c.documents_stay.ensures.none

pub returns-clause-compared : goal.returns-clause-compared
returns-clause-compared c = compared_stay c.documents_stay.ensures.meanings
