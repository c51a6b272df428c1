use Rattle.std.proofs.Common.{sym, arith}
use Rattle.plan_text.proofs.Lengths.{is_group_row-short, is_group_row-long}
use Rattle.plan_text.proofs.misfit.is_group_row.Goals as goal

pub returns-in-len1 : goal.returns-in-len1
returns-in-len1 c = sym (is_group_row-short c.args.parts.now (omega arith))

pub returns-in-len2 : goal.returns-in-len2
returns-in-len2 c = sym (is_group_row-short c.args.parts.now (omega arith))

pub returns-in-len4-up : goal.returns-in-len4-up
returns-in-len4-up c = sym (is_group_row-long c.args.parts.now (omega arith))
