use Rattle.std.proofs.Common.{sym, arith}
use Rattle.note_lines.proofs.Lengths.{parts_of-short, parts_of-long}
use Rattle.note_lines.proofs.parts.parts_of.Goals as goal

pub returns-in-len1 : goal.returns-in-len1
returns-in-len1 c = sym (parts_of-short c.args.parts.now (omega arith))

pub returns-in-len2 : goal.returns-in-len2
returns-in-len2 c = sym (parts_of-short c.args.parts.now (omega arith))

pub returns-in-len3 : goal.returns-in-len3
returns-in-len3 c = sym (parts_of-short c.args.parts.now (omega arith))

pub returns-in-len5-up : goal.returns-in-len5-up
returns-in-len5-up c = sym (parts_of-long c.args.parts.now (omega arith))
