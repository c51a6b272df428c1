use Rattle.std.specs.Arc.{arc_value}
use Rattle.snap_share.proofs.Numbers.{answer_known, answers, starts}
use Rattle.snap_share.proofs.seat.ReadSeatCurrent.current.Goals as goal

pub returns-clause-grows : goal.returns-clause-grows
returns-clause-grows g c = starts c.args.self.now.known c.read_on.new.self.known c.read_on.ensures.forward

pub returns-clause-known : goal.returns-clause-known
returns-clause-known g c = answer_known arc_value c.read_on.result c.read_on.new.self.known c.read_on.ensures.last

pub returns-clause-read : goal.returns-clause-read
returns-clause-read g c = answers arc_value c.read_on.result c.args.self.now c.read_on.new.self c.read_on.ensures.forward c.read_on.ensures.once c.read_on.ensures.last
