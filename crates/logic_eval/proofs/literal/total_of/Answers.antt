use Rattle.std.proofs.Common.{◌-◌, length, arith}
use Rattle.logic_eval.proofs.Literals.{last_end}
use Rattle.logic_eval.proofs.literal.total_of.Goals as goal

pub returns : goal.returns
returns c r sums = last_end r c.args.ends.now sums c.requires (length c.args.ends.now - 1) (omega (arith, c.requires))
