-- The laws are lemmas over those of the planner.
use Rattle.flagops_rollouts.proofs.Tallies.{plans_alike, plans_as_any, tells_alike, tells_as_any}
use Rattle.flagops_rollouts.proofs.laws.tallies_answer_as_books.Goals as goal

pub returns-clause-plans : goal.returns-clause-plans
returns-clause-plans c = plans_alike c.tallies_plan_as_books.ensures.counts c.tallies_plan_as_books.ensures.asks

pub returns-clause-verdicts : goal.returns-clause-verdicts
returns-clause-verdicts c = tells_alike c.tallies_plan_as_books.ensures.asks

pub returns-clause-any_plans : goal.returns-clause-any_plans
returns-clause-any_plans c = plans_as_any c.tallies_plan_as_books.ensures.counts c.tallies_plan_as_books.ensures.asks

pub returns-clause-any_verdicts : goal.returns-clause-any_verdicts
returns-clause-any_verdicts c = tells_as_any c.tallies_plan_as_books.ensures.asks
