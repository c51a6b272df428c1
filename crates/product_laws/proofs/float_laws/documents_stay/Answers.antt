use Rattle.product_laws.proofs.Marked.{none_is_marked}
use Rattle.product_laws.proofs.FloatRead as read
use Rattle.product_laws.proofs.float_laws.documents_stay.Goals as goal

pub returns-clause-trees : goal.returns-clause-trees
returns-clause-trees c = read.trees_stay c.floats_change_nothing.ensures

pub returns-clause-meanings : goal.returns-clause-meanings
returns-clause-meanings c = read.meanings_stay c.floats_change_nothing.ensures

pub returns-clause-none : goal.returns-clause-none
returns-clause-none c = none_is_marked c.whole_flags_have_no_floats.ensures

pub returns-clause-sources : goal.returns-clause-sources
returns-clause-sources c = read.sources_stay c.floats_change_nothing.ensures
