use Rattle.flagops_drive.proofs.Misfits.{misfit-asks}
use Rattle.flagops_drive.proofs.laws.a_misfit_is_all_that_refuses.Goals as goal

pub returns : goal.returns
returns c = misfit-asks
