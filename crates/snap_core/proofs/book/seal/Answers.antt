use Rattle.snap_core.specs.WorldView.{world_view}
use Rattle.snap_core.proofs.Booked.{seal_done}
use Rattle.snap_core.proofs.book.seal.Goals as goal

pub returns : goal.returns
returns c = seal_done (world_view c.args.world.now) c.inputs.result c.if-world.false c.inputs.ensures.count
