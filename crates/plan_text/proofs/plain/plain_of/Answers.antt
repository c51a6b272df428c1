use Rattle.flag_text.proofs.Readings.{no_utf8}
use Rattle.plan_text.proofs.plain.plain_of.Goals as goal

pub returns-in-Ok-clause-no_text : goal.returns-in-Ok-clause-no_text
returns-in-Ok-clause-no_text c = λ other. absurd (no_utf8 c.args.bytes.now c.in-Ok.ensures.1 other)
