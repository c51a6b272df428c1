use Rattle.product_laws.proofs.Remarks.{check_remarks, compare_remarks}
use Rattle.product_laws.proofs.laws.floats_change_no_remark.Goals as goal

pub returns-clause-compared : goal.returns-clause-compared
returns-clause-compared c = compare_remarks c.documents_stay.ensures.meanings

pub returns-clause-checks : goal.returns-clause-checks
returns-clause-checks c = check_remarks c.documents_stay.ensures.meanings c.documents_stay.ensures.trees
