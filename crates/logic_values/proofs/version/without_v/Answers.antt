use Rattle.std.proofs.Common.{None, Some, lit<}
use Rattle.std.proofs.lemmas.Str.Pattern.{strip_prefix_char}
use Rattle.logic_values.proofs.Leading.{without_small}
use Rattle.logic_values.proofs.version.without_v.Goals as goal

pub without_capital_v-requires : goal.without_capital_v-requires
without_capital_v-requires c = strip_prefix_char 118 c.args.text.now None c.in-None.ensures.cases (lit< tt)

pub returns-in-Some : goal.returns-in-Some
returns-in-Some c = without_small c.args.text.now c.in-Some.rest.now (strip_prefix_char 118 c.args.text.now (Some c.in-Some.rest) c.in-Some.ensures.cases (lit< tt))
