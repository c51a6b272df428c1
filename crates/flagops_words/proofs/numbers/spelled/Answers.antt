use Rattle.std.proofs.Common.{◌∙◌}
use Rattle.flagops_words.proofs.Numerals.{read, unread}
use Rattle.flagops_words.proofs.numbers.spelled.Goals as goal

pub returns-in-Err-clause-number : goal.returns-in-Err-clause-number
returns-in-Err-clause-number c = unread c.args.least c.args.most c.args.word.now c.parse.result _ c.parse.ensures.value.0 c.in-Err.is

pub returns-in-Ok-clause-number : goal.returns-in-Ok-clause-number
returns-in-Ok-clause-number c = c.within.ensures.number ∙ read c.args.least c.args.most c.args.word.now c.in-Ok.number c.parse.result c.parse.ensures.value.0 c.in-Ok.is
