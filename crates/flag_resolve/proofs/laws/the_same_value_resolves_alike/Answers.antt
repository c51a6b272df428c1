use Rattle.flag_resolve.proofs.Alike.{alike, others}
use Rattle.flag_resolve.proofs.laws.the_same_value_resolves_alike.Goals as goal

pub returns-clause-changed : goal.returns-clause-changed
returns-clause-changed c = alike

pub returns-clause-others : goal.returns-clause-others
returns-clause-others c = others
