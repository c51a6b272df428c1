use Rattle.std.proofs.Common.{ap}
use Rattle.flagops_filters.specs.Refusal.{is_want}
use Rattle.flagops_filters.proofs.joining.both_of.Goals as goal

pub returns-in-Ok-clause-exact : goal.returns-in-Ok-clause-exact
returns-in-Ok-clause-exact c = c.in-Ok.ensures

pub returns-in-Err-clause-exact : goal.returns-in-Err-clause-exact
returns-in-Err-clause-exact c = λ no_want. (c.in-Err.fault, c.in-Err.ensures, c.unjoined.ensures.refusal)

pub returns-in-Err-clause-no_want : goal.returns-in-Err-clause-no_want
returns-in-Err-clause-no_want c = ap is_want c.unjoined.ensures.refusal
