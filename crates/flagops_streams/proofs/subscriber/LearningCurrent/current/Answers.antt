use Rattle.std.specs.Arc.{arc_value}
use Rattle.snap_share.proofs.Numbers.{starts}
use Rattle.flagops_streams.proofs.Learned.{grown, learned, prefix_trans}
use Rattle.flagops_streams.proofs.subscriber.LearningCurrent.current.Goals as goal

pub returns-clause-grows : goal.returns-clause-grows
returns-clause-grows g c =
    starts c.args.self.now.seat.known c.current.new.self.known
    (prefix_trans c.args.self.now.seat.known _ c.current.new.self.known c.learn.ensures.forward (grown arc_value c.current.result _ c.current.new.self c.current.ensures.read))

pub returns-clause-read : goal.returns-clause-read
returns-clause-read g c = learned arc_value c.current.result c.args.self.now.seat _ c.current.new.self c.learn.ensures.forward c.learn.ensures.reads c.current.ensures.read
