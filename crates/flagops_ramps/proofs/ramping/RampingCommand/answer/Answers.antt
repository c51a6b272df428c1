use Rattle.flagops_ramps.specs.Words.{ramping_view}
use Rattle.flagops_ramps.proofs.Diagnosed.{ramp_remarks}
use Rattle.flagops_ramps.proofs.ramping.RampingCommand.answer.Goals as goal

pub returns-clause-remarks : goal.returns-clause-remarks
returns-clause-remarks g c = ramp_remarks (ramping_view c.args.self.now) (g.F.FileSet.holding c.args.files.now) c.planned.result c.planned.ensures.names c.planned.ensures.notes c.planned.ensures.parts
