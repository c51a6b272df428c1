use Rattle.flagops_ramps.specs.Words.{keeping_view}
use Rattle.flagops_ramps.proofs.Diagnosed.{keep_remarks}
use Rattle.flagops_ramps.proofs.keeping.KeepingCommand.answer.Goals as goal

pub returns-clause-remarks : goal.returns-clause-remarks
returns-clause-remarks g c = keep_remarks (keeping_view c.args.self.now) (g.F.FileSet.holding c.args.files.now) c.keep.result c.keep.ensures.names c.keep.ensures.notes c.keep.ensures.parts
