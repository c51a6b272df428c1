use Rattle.std.proofs.Common.{sym, arith}
use Rattle.price_core.proofs.Parts.{price_parts-short, price_parts-long}
use Rattle.price_core.proofs.draft.price_parts.Goals as goal

pub returns-in-len1 : goal.returns-in-len1
returns-in-len1 c = sym (price_parts-short c.args.parts.now (omega arith))

pub returns-in-len2 : goal.returns-in-len2
returns-in-len2 c = sym (price_parts-short c.args.parts.now (omega arith))

pub returns-in-len4-up : goal.returns-in-len4-up
returns-in-len4-up c = sym (price_parts-long c.args.parts.now (omega arith))
