use Rattle.rollout.proofs.Verifies.{valid_plain, valid_refined, valid_rule}
use Rattle.rollout.proofs.laws.plans_are_valid.Goals as goal

pub returns-clause-plain : goal.returns-clause-plain
returns-clause-plain c = valid_plain

pub returns-clause-refined : goal.returns-clause-refined
returns-clause-refined c = valid_refined

pub returns-clause-rule : goal.returns-clause-rule
returns-clause-rule c = valid_rule
