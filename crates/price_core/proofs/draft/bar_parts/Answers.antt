use Rattle.std.proofs.Common.{sym, arith}
use Rattle.price_core.proofs.Parts.{bar_parts-short, bar_parts-long}
use Rattle.price_core.proofs.draft.bar_parts.Goals as goal

pub returns-in-len1 : goal.returns-in-len1
returns-in-len1 c = sym (bar_parts-short c.args.parts.now (omega arith))

pub returns-in-len3-up : goal.returns-in-len3-up
returns-in-len3-up c = sym (bar_parts-long c.args.parts.now (omega arith))
