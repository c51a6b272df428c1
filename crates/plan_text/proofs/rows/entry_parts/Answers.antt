use Rattle.std.proofs.Common.{sym, arith}
use Rattle.plan_text.proofs.Lengths.{entry_parts-short, entry_parts-long}
use Rattle.plan_text.proofs.rows.entry_parts.Goals as goal

pub returns-in-len1-clause-value : goal.returns-in-len1-clause-value
returns-in-len1-clause-value c = sym (entry_parts-short c.args.parts.now (omega arith))

pub returns-in-len3-up-clause-value : goal.returns-in-len3-up-clause-value
returns-in-len3-up-clause-value c = sym (entry_parts-long c.args.parts.now (omega arith))
