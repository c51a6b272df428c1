-- The law is its lemma.
use Rattle.min_cost_flow.proofs.OptimalLaws.{least_after}
use Rattle.min_cost_flow.proofs.optimal.pushing.Goals as goal

pub returns : goal.returns
returns c old new potential group from to points least push group_in from_in to_in apart some reduced_zero = least_after old new potential group from to points least push group_in from_in to_in apart some reduced_zero
