use Rattle.plan_text.proofs.Misfits.{misfit-planned}
use Rattle.plan_text.proofs.laws.a_misfit_is_all_that_refuses.Goals as goal

pub returns : goal.returns
returns c = misfit-planned
