use Rattle.product_laws.proofs.Kept.{kept_stay}
use Rattle.product_laws.proofs.laws.floats_change_no_kept_rule.Goals as goal

pub returns : goal.returns
returns c = kept_stay c.documents_stay.ensures.meanings c.documents_stay.ensures.trees c.whole_numbers_stay.ensures
