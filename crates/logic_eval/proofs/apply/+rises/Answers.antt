use Rattle.std.proofs.Common.{sym, arith}
use Rattle.logic_values.specs.Comparison.{is_less}
use Rattle.logic_eval.proofs.Chains.{chain_short}
use Rattle.logic_eval.proofs.apply.+rises.Goals as goal

pub returns-in_default : goal.returns-in_default
returns-in_default t c = sym (chain_short is_less c.args.values.now (omega arith))
