use Rattle.std.proofs.lemmas.Str.Pattern.{contains_text}
use Rattle.logic_values.proofs.Occurring.{occurs_in_is}
use Rattle.logic_values.proofs.text.is_within.Goals as goal

pub returns : goal.returns
returns c = occurs_in_is c.contains.result c.args.part.now c.args.content.now (contains_text c.contains.result c.args.part.now c.args.content.now c.contains.ensures.cases)
