use Rattle.flagops_ramps.specs.Words.{applying_view}
use Rattle.flagops_ramps.proofs.Diagnosed.{step_remarks}
use Rattle.flagops_ramps.proofs.applying.ApplyingCommand.answer.Goals as goal

pub returns-clause-remarks : goal.returns-clause-remarks
returns-clause-remarks g c = step_remarks (applying_view c.args.self.now) (g.F.FileSet.holding c.args.files.now) c.applied.result c.applied.ensures.names c.applied.ensures.notes c.applied.ensures.parts
