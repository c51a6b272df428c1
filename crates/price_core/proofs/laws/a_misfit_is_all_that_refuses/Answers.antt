use Rattle.price_core.proofs.Misfits.{misfit-written}
use Rattle.price_core.proofs.laws.a_misfit_is_all_that_refuses.Goals as goal

pub returns : goal.returns
returns c = misfit-written
