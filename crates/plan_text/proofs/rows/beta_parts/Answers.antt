use Rattle.std.proofs.Common.{sym, arith}
use Rattle.plan_text.proofs.Lengths.{beta_parts-short, beta_parts-long}
use Rattle.plan_text.proofs.rows.beta_parts.Goals as goal

pub returns-in-len1 : goal.returns-in-len1
returns-in-len1 c = sym (beta_parts-short c.args.parts.now (omega arith))

pub returns-in-len3-up : goal.returns-in-len3-up
returns-in-len3-up c = sym (beta_parts-long c.args.parts.now (omega arith))
