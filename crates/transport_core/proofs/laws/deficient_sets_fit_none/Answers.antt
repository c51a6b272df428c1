use Rattle.transport_core.proofs.Deficits.{deficient_fits_none}
use Rattle.transport_core.proofs.laws.deficient_sets_fit_none.Goals as goal

pub returns : goal.returns
returns c = record { none = deficient_fits_none }
