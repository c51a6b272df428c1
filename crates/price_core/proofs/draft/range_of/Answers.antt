use Rattle.std.proofs.Common.{sym, arith}
use Rattle.price_core.proofs.Parts.{range_of-short, range_of-long}
use Rattle.price_core.proofs.draft.range_of.Goals as goal

pub returns-in_default : goal.returns-in_default
returns-in_default c = sym (range_of-short c.args.parts.now (omega arith))

pub returns-in_default-2 : goal.returns-in_default-2
returns-in_default-2 c = sym (range_of-long c.args.parts.now (omega arith))
