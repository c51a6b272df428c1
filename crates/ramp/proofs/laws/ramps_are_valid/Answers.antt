use Rattle.ramp.proofs.Valid.{ramp_valid, rule_valid}
use Rattle.ramp.proofs.laws.ramps_are_valid.Goals as goal

pub returns-clause-planned : goal.returns-clause-planned
returns-clause-planned c = λ refine standing requests recorded answers told of plans is. ramp_valid c.tallies_plan_as_books.ensures.asks recorded of refine standing requests answers told plans is

pub returns-clause-rule : goal.returns-clause-rule
returns-clause-rule c = λ m standing requests recorded rule certificate answers told of plans is. rule_valid c.tallies_plan_as_books.ensures.asks recorded of m standing requests rule certificate answers told plans is
