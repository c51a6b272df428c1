-- The laws are their lemmas.
use Rattle.rollout.proofs.Tallies.{asks_alike, plans_are, plans_of_book}
use Rattle.rollout.proofs.laws.tallies_plan_as_books.Goals as goal

pub returns-clause-counts : goal.returns-clause-counts
returns-clause-counts c = λ p some more answer of_some of_more. plans_are p some more of_some of_more answer

pub returns-clause-asks : goal.returns-clause-asks
returns-clause-asks c = asks_alike

pub returns-clause-plans : goal.returns-clause-plans
returns-clause-plans c = plans_of_book
