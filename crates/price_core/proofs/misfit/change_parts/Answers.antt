use Rattle.std.proofs.Common.{sym, arith}
use Rattle.price_core.proofs.Parts.{change_parts-short}
use Rattle.price_core.proofs.misfit.change_parts.Goals as goal

pub returns-in_default : goal.returns-in_default
returns-in_default c = sym (change_parts-short c.args.parts.now (omega arith))
