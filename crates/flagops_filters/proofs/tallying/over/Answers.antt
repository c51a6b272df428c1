use Rattle.flagops_filters.specs.Place.{target_view}
use Rattle.flagops_filters.proofs.Tallied.{printed, stopped, told_beside}
use Rattle.flagops_filters.proofs.tallying.over.Goals as goal

pub returns-in-Ok-clause-exact : goal.returns-in-Ok-clause-exact
returns-in-Ok-clause-exact g c = printed (target_view c.args.target) (g.I.Inlet.is_broken c.tally_stream.new.input) (g.I.Inlet.bytes c.args.input.now) c.in-Ok.came c.printed.result c.in-Ok.ensures c.printed.ensures.prints

pub returns-in-Ok-clause-notes : goal.returns-in-Ok-clause-notes
returns-in-Ok-clause-notes g c = told_beside (target_view c.args.target) (g.I.Inlet.is_broken c.tally_stream.new.input) (g.I.Inlet.bytes c.args.input.now) c.in-Ok.came c.printed.result c.in-Ok.ensures c.printed.ensures.prints c.printed.ensures.notes

pub returns-in-Err-clause-exact : goal.returns-in-Err-clause-exact
returns-in-Err-clause-exact g c = stopped (target_view c.args.target) (g.I.Inlet.is_broken c.tally_stream.new.input) (g.I.Inlet.bytes c.args.input.now) c.in-Err.stop c.stopped.result c.in-Err.ensures c.stopped.ensures.refusal

pub returns-in-Err-clause-stops : goal.returns-in-Err-clause-stops
returns-in-Err-clause-stops g c = ((c.in-Err.stop, c.stopped.ensures.refusal), c.stopped.ensures.names)
