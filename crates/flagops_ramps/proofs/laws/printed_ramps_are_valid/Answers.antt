use Rattle.flagops_ramps.proofs.Valid.{ramps_are_valid}
use Rattle.flagops_ramps.proofs.laws.printed_ramps_are_valid.Goals as goal

pub returns : goal.returns
returns c = λ strict refine q report of came. ramps_are_valid c.ramps_are_valid.ensures.planned strict refine q report of came
