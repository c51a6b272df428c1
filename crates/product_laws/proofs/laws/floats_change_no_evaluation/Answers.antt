use Rattle.product_laws.proofs.Evaluated.{driven_stay, resolved_stay}
use Rattle.product_laws.proofs.laws.floats_change_no_evaluation.Goals as goal

pub returns-clause-resolved : goal.returns-clause-resolved
returns-clause-resolved c = resolved_stay c.documents_stay.ensures.meanings c.documents_stay.ensures.none c.floats_are_of_their_kind.ensures.same c.floats_are_of_their_kind.ensures.plain

pub returns-clause-driven : goal.returns-clause-driven
returns-clause-driven c = driven_stay c.documents_stay.ensures.meanings c.documents_stay.ensures.none c.floats_change_nothing.ensures.same
