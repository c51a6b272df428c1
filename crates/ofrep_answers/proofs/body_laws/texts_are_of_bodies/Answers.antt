use Rattle.ofrep_answers.proofs.BodyTexts.{flags_text_of_bodies, texts_of_bodies}
use Rattle.ofrep_answers.proofs.body_laws.texts_are_of_bodies.Goals as goal

pub returns-clause-one : goal.returns-clause-one
returns-clause-one c = texts_of_bodies

pub returns-clause-all : goal.returns-clause-all
returns-clause-all c = flags_text_of_bodies
