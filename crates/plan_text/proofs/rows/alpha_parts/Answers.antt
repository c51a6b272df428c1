use Rattle.std.proofs.Common.{sym, arith}
use Rattle.plan_text.proofs.Lengths.{alpha_parts-short, alpha_parts-long}
use Rattle.plan_text.proofs.rows.alpha_parts.Goals as goal

pub returns-in-len1 : goal.returns-in-len1
returns-in-len1 c = sym (alpha_parts-short c.args.parts.now (omega arith))

pub returns-in-len2 : goal.returns-in-len2
returns-in-len2 c = sym (alpha_parts-short c.args.parts.now (omega arith))

pub returns-in-len4-up : goal.returns-in-len4-up
returns-in-len4-up c = sym (alpha_parts-long c.args.parts.now (omega arith))
