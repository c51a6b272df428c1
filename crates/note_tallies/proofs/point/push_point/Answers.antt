use Rattle.std.proofs.Common.{arith, append_assoc}
use Rattle.note_tallies.proofs.Spelled.{written}
use Rattle.note_tallies.proofs.point.push_point.Goals as goal

pub returns-clause-text : goal.returns-clause-text
returns-clause-text c = grind (arith, append_assoc, written c.args.count)
