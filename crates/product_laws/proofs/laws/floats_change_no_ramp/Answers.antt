use Rattle.product_laws.proofs.KeptSteps.{kept_steps_stay}
use Rattle.product_laws.proofs.Ramps.{ramp_verdicts_stay, ramps_stay, steps_stay}
use Rattle.product_laws.proofs.laws.floats_change_no_ramp.Goals as goal

pub returns-clause-ramps : goal.returns-clause-ramps
returns-clause-ramps c = ramps_stay c.documents_stay.ensures.meanings

pub returns-clause-verdicts : goal.returns-clause-verdicts
returns-clause-verdicts c = ramp_verdicts_stay c.documents_stay.ensures.meanings

pub returns-clause-steps : goal.returns-clause-steps
returns-clause-steps c = λ other at a r whole. steps_stay c.documents_stay.ensures.meanings c.documents_stay.ensures.trees c.documents_stay.ensures.none other at a r whole

pub returns-clause-kept : goal.returns-clause-kept
returns-clause-kept c = kept_steps_stay c.documents_stay.ensures.meanings c.documents_stay.ensures.trees c.whole_numbers_stay.ensures
