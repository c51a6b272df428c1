use Rattle.std.proofs.Common.{sym, arith}
use Rattle.logic_values.specs.Decimals.{at_most}
use Rattle.logic_eval.proofs.Chains.{exact_chain_short}
use Rattle.logic_eval.proofs.exact.+never_falls.Goals as goal

pub returns-in_default : goal.returns-in_default
returns-in_default t c = sym (exact_chain_short at_most c.args.values.now (omega arith))
