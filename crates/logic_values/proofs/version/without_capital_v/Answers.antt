use Rattle.std.proofs.Common.{None, Some, lit<}
use Rattle.std.proofs.lemmas.Str.Pattern.{strip_prefix_char}
use Rattle.logic_values.proofs.Leading.{without_capital, without_none}
use Rattle.logic_values.proofs.version.without_capital_v.Goals as goal

pub returns-in-None : goal.returns-in-None
returns-in-None c = without_none c.args.text.now c.requires (strip_prefix_char 86 c.args.text.now None c.in-None.ensures.cases (lit< tt))

pub returns-in-Some : goal.returns-in-Some
returns-in-Some c = without_capital c.args.text.now c.in-Some.rest.now (strip_prefix_char 86 c.args.text.now (Some c.in-Some.rest) c.in-Some.ensures.cases (lit< tt))
