use Rattle.library_seat.proofs.KeyTexts.{text_key, no_key}
use Rattle.library_seat.proofs.question.key_of.Goals as goal

pub returns-in-Ok-clause-exact : goal.returns-in-Ok-clause-exact
returns-in-Ok-clause-exact c = text_key c.in-Ok.text.now c.args.bytes.now c.in-Ok.ensures.cases.0 c.in-Ok.ensures.cases.1

pub returns-in-Err-clause-exact : goal.returns-in-Err-clause-exact
returns-in-Err-clause-exact c = no_key c.args.bytes.now c.in-Err.ensures.cases.0
