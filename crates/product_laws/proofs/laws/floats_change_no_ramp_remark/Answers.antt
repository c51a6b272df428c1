use Rattle.product_laws.proofs.RampRemarks as remarks
use Rattle.product_laws.proofs.laws.floats_change_no_ramp_remark.Goals as goal

pub returns-clause-ramps : goal.returns-clause-ramps
returns-clause-ramps c = λ other. remarks.ramp_remarks other c.documents_stay.ensures.meanings

pub returns-clause-verdicts : goal.returns-clause-verdicts
returns-clause-verdicts c = λ other. remarks.verdict_remarks other c.documents_stay.ensures.meanings

pub returns-clause-steps : goal.returns-clause-steps
returns-clause-steps c = λ other. remarks.step_remarks other c.documents_stay.ensures.meanings c.documents_stay.ensures.trees

pub returns-clause-kept : goal.returns-clause-kept
returns-clause-kept c = λ other. remarks.kept_remarks other c.documents_stay.ensures.meanings
