use Rattle.ofrep_answers.proofs.Spelled.{floats_change_nothing, values_are_spelled}
use Rattle.ofrep_answers.proofs.laws.floats_are_spelled.Goals as goal

pub returns-clause-same : goal.returns-clause-same
returns-clause-same c = floats_change_nothing c.texts_are_of_bodies.ensures.one c.texts_are_of_bodies.ensures.all

pub returns-clause-value : goal.returns-clause-value
returns-clause-value c = values_are_spelled
